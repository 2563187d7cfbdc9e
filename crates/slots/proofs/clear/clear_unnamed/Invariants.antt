use Prim.Native.Nat.{◌-◌}
use Rattle.slots.specs.Slots.{cleared_from, is_set}
use lib.ListN.{length}
use mathlib.Core.Path.{◌≡◌}
use Rattle.slots.proofs.clear.clear_unnamed.Given as goal

abbrev pub invariant-loop-i : goal.invariant-loop-i
invariant-loop-i l =
    (length l.store ≡ length l.initial.store)
    × (cleared_from (is_set l.was) (is_set l.is) 8 0 l.initial.store ≡ cleared_from (is_set l.was) (is_set l.is) (8 - l.i) l.i l.store)
