use Prim.Native.Nat.{◌-◌}
use Rattle.lookup.specs.Lookup.{named_slots}
use Rattle.model.specs.Model.{in_slots}
use Rattle.model.specs.SlotsShown.{slots_from}
use Rattle.segments.specs.Segments.{is_named}
use Rattle.segments.specs.declared.Table.{Table}
use mathlib.Core.Path.{◌≡◌}
use Rattle.soundness.proofs.distinct.is_held_from.Given as goal

abbrev pub invariant-loop-j : goal.invariant-loop-j
invariant-loop-j l =
    (t : Table) → l.named ≡ named_slots t → in_slots l.body (slots_from (is_named t) l.store (8 - l.initial.j) l.initial.j) ≡ in_slots l.body (slots_from (is_named t) l.store (8 - l.j) l.j)
