use Prim.Native.Nat.{◌-◌}
use Rattle.lookup.specs.Lookup.{named_slots}
use Rattle.model.specs.SlotsShown.{all_distinct, slots_from}
use Rattle.segments.specs.Segments.{is_named}
use Rattle.segments.specs.declared.Table.{Table}
use mathlib.Core.Path.{◌≡◌}
use Rattle.soundness.proofs.distinct.all_distinct.Given as goal

abbrev pub invariant-loop-i : goal.invariant-loop-i
invariant-loop-i l =
    (t : Table) → l.named ≡ named_slots t → all_distinct (slots_from (is_named t) l.store 8 0) ≡ all_distinct (slots_from (is_named t) l.store (8 - l.i) l.i)
