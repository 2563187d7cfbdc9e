-- The right that a slot's body gives, and the slot that it leads back to.
use Prim.Native.Nat.{ℕ}
use mathlib.Core.Path.{◌≡◌, refl, sym, ap, ◌∙◌}
use mathlib.Core.Bool.{true, false≢true}
use mathlib.Core.List.{List}
use borrow.Author.Tests.{eqb-true}
use lib.Dec.{eqb}
use lib.ListN.{get_or}
use Rattle.octets.proofs.SameLaws.{same_refl}
use Rattle.segments.specs.declared.Right.{Right}
use Rattle.segments.specs.declared.Right.TheVariants.{None, Granted, Recalled}
use Rattle.segments.specs.Segments.{is_of_slot}
use Rattle.store.specs.Store.{Body, Slot, empty, holds}
use Rattle.model.specs.Model.{ByteRight, granted, recalled, in_slots, is_under, with_slot}
use Rattle.model.specs.SlotsShown.{all_distinct}
use Rattle.model.specs.Claim.{under_slot, with_body}
use Rattle.model.specs.Invariants.{InSlot}
use Rattle.model.proofs.ModelSlotLaws.{held_in, held_slot}

-- a slot that holds a body
abbrev pub HoldsBody : List Slot → ℕ → Type 0
HoldsBody ss i = (b : Body) × (get_or ss i empty ≡ holds b)

-- the slot of a right holds a body
abbrev pub Under : List Slot → Right → Type 0
Under ss None = Unit {0}
Under ss (Granted i) = HoldsBody ss i.0
Under ss (Recalled i) = HoldsBody ss i.0

pub slot_forth : (ss : List Slot) (r : Right) → all_distinct ss ≡ true → Under ss r → with_slot ss (with_body ss r) ≡ r
slot_forth ss None a u = refl
slot_forth ss (Granted i) a u =
    ap (λ (s : Slot). with_slot ss (under_slot granted s)) u.1 ∙ (λ j. Granted (record { 0 = held_slot u.0 ss i.0 a u.1 j }))
slot_forth ss (Recalled i) a u =
    ap (λ (s : Slot). with_slot ss (under_slot recalled s)) u.1 ∙ (λ j. Recalled (record { 0 = held_slot u.0 ss i.0 a u.1 j }))

-- the body of a right is in a slot; c: granted or recalled
in_slot_slot : (c : Body → ByteRight) (ss : List Slot) (i : ℕ) → ((b : Body) → in_slots b ss ≡ true → InSlot ss (c b))
    → InSlot ss (under_slot c (get_or ss i empty))
in_slot_slot c ss i h = go (get_or ss i empty) refl
  where
    go : (s : Slot) → get_or ss i empty ≡ s → InSlot ss (under_slot c s)
    go empty e = tt
    go (holds b) e = h b (held_in b ss i e)

pub in_slot_under : (ss : List Slot) (r : Right) → InSlot ss (with_body ss r)
in_slot_under ss None = tt
in_slot_under ss (Granted i) = in_slot_slot granted ss i.0 (λ b h. h)
in_slot_under ss (Recalled i) = in_slot_slot recalled ss i.0 (λ b h. h)

-- a right that names slot i is under the body in it
names_slot : (c : Body → ByteRight) (ss : List Slot) (i k : ℕ) (b : Body) → is_under b (c b) ≡ true → get_or ss i empty ≡ holds b → eqb i k ≡ true
    → is_under b (under_slot c (get_or ss k empty)) ≡ true
names_slot c ss i k b r e h =
    ap (λ (n : ℕ). is_under b (under_slot c (get_or ss n empty))) (sym (eqb-true i k h)) ∙ (ap (λ (x : Slot). is_under b (under_slot c x)) e ∙ r)

pub of_slot_under : (ss : List Slot) (i : ℕ) (b : Body) (r : Right) → get_or ss i empty ≡ holds b → is_of_slot i r ≡ true
    → is_under b (with_body ss r) ≡ true
of_slot_under ss i b None e h = absurd (false≢true h)
of_slot_under ss i b (Granted s) e h = names_slot granted ss i s.0 b (same_refl b) e h
of_slot_under ss i b (Recalled s) e h = names_slot recalled ss i s.0 b (same_refl b) e h
