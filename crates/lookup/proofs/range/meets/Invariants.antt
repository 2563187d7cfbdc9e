use Rattle.lookup.specs.Lookup.{satisfies}
use Rattle.lookup.specs.declared.range.Condition.{Condition}
use Rattle.segments.proofs.ModeLaws.{PassedTo}
use Rattle.segments.specs.Segments.{Mode, acts_on, any_meets, list_in}
use Rattle.segments.specs.declared.Span.{Span}
use Rattle.segments.specs.declared.Table.{Table}
use mathlib.Core.Bool.{Bool, false, ◌&&◌}
use Rattle.lookup.proofs.range.meets.Given as goal

abbrev pub test : Table → Span → Condition → Mode → Bool
test t s c m = acts_on s.iomode m && any_meets (satisfies c) s.first s.last (list_in t m)

abbrev pub invariant-loop-i : goal.invariant-loop-i
invariant-loop-i l = PassedTo (test l.t l.s l.c) false l.i
