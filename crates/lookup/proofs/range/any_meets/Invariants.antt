use Rattle.std.proofs.Common.{◌≡◌, drop}
use Rattle.segments.specs.Segments.{any_meets}
use Rattle.lookup.specs.Lookup.{satisfies}
use Rattle.lookup.proofs.range.any_meets.Given as goal

abbrev pub invariant-loop-s : goal.invariant-loop-s
invariant-loop-s l = any_meets (satisfies l.c) l.first l.last l.s-items ≡ any_meets (satisfies l.c) l.first l.last (drop l.s-index l.s-items)
