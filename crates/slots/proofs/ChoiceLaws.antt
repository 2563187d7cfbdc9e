-- The lowest empty slot is where the reference model stores a new body.
use Prim.Native.Nat.{suc, ◌<◌}
use mathlib.Core.Path.{◌≡◌, refl, sym, ap}
use mathlib.Core.Bool.{Bool, true, false, ◌||◌, false≢true}
use mathlib.Core.List.{List, [], ◌∷◌}
use native.Mathlib.Omega.{arith}
use lib.ListN.{length, set}
use Rattle.octets.proofs.SameLaws.{same_refl}
use Rattle.base.specs.Answer.{pick}
use Rattle.octets.specs.Numbers.{same_bytes}
use Rattle.store.specs.Store.{Body, Slot, empty, holds}
use Rattle.model.specs.Model.{in_lowest, in_slots, none_empty, slot_of}
use Rattle.slots.specs.Slots.{lowest_empty}

pub lowest_is_in : (ss : List Slot) → none_empty ss ≡ false → lowest_empty ss < length ss
unfolding none_empty lowest_empty
lowest_is_in [] h = absurd (false≢true (sym h))
lowest_is_in (empty ∷ ss) h = omega arith
lowest_is_in (holds c ∷ ss) h = let k = lowest_is_in ss h in omega arith

pub lowest_set : (b : Body) (ss : List Slot) → set ss (lowest_empty ss) (holds b) ≡ in_lowest b ss
unfolding lowest_empty in_lowest
lowest_set b [] = refl
lowest_set b (empty ∷ ss) = refl
lowest_set b (holds c ∷ ss) = ap {B = List Slot} (λ l. holds c ∷ l) (lowest_set b ss)

pub lowest_of : (b : Body) (ss : List Slot) → in_slots b ss ≡ false → none_empty ss ≡ false → slot_of b (in_lowest b ss) ≡ lowest_empty ss
unfolding in_slots none_empty slot_of in_lowest lowest_empty pick
lowest_of b [] h k = absurd (false≢true (sym k))
lowest_of b (empty ∷ ss) h k = rw (same_refl b)
lowest_of b (holds c ∷ ss) h k = go (same_bytes b c) h (λ e. lowest_of b ss e k)
  where
    go : (t : Bool) → (t || in_slots b ss) ≡ false → (in_slots b ss ≡ false → slot_of b (in_lowest b ss) ≡ lowest_empty ss)
        → pick t 0 (suc (slot_of b (in_lowest b ss))) ≡ suc (lowest_empty ss)
    go true e rest = absurd (false≢true (sym e))
    go false e rest = ap suc (rest e)
