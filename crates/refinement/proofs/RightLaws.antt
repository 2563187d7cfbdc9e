-- The rights that an edit leaves are those of the model after the event, with the numbers of its slots.
use Prim.Native.Nat.{ℕ, ◌≤◌}
use mathlib.Core.Path.{◌≡◌, refl, ap, ◌∙◌}
use mathlib.Core.Bool.{Bool, true, false}
use mathlib.Core.List.{List}
use Rattle.octets.proofs.SameLaws.{same_refl}
use Rattle.base.specs.Answer.{pick}
use Rattle.segments.specs.declared.Right.TheVariants.{Granted, Recalled}
use Rattle.segments.specs.Segments.{Mode}
use Rattle.table.specs.declared.change.Change.{Change}
use Rattle.table.specs.declared.change.Change.TheVariants as change
use Rattle.table.specs.Edits.{changed_right}
use Rattle.store.specs.Store.{Body, Slot}
use Rattle.model.specs.Model.{ByteRight, none, granted, recalled, Model, Command, Action, grants, returns, recalls, revokes, act, after_at, any_byte, covers, in_slots, is_under, placed, right_after, slot_of, with_slot}
use Rattle.model.proofs.ModelSlotLaws.{named_slot, placed_slot}
use Rattle.model.specs.Invariants.{InSlot}
use Rattle.model.proofs.Inv.{any_byte_lem}

-- what an event makes of the table, given the slot of its body
abbrev pub change_for : Action → ℕ → Change
change_for (grants b) s = change.Grant (record { 0 = s })
change_for returns s = change.Clear
change_for recalls s = change.Recall
change_for revokes s = change.Clear

-- the slot of a granted body is s
abbrev pub ChoiceIs : Action → List Slot → ℕ → Type 0
ChoiceIs (grants b) ss s = slot_of b (placed (grants b) ss) ≡ s
ChoiceIs returns ss s = Unit {0}
ChoiceIs recalls ss s = Unit {0}
ChoiceIs revokes ss s = Unit {0}

module _ (N : ℕ) where
  module _ (M : Model) (o : Command) where
    -- a right that the event leaves under a body names it
    body_named : (m : Mode) (x : ℕ) (r : ByteRight) (b : Body) → x ≤ N → (act N o M).right m x ≡ r → is_under b r ≡ true
        → any_byte N (λ m x. is_under b ((act N o M).right m x)) ≡ true
    body_named m x r b k e u = any_byte_lem N (λ m x. is_under b ((act N o M).right m x)) m x k (ap (is_under b) e ∙ u)

    slot_kept : (m : Mode) (x : ℕ) (r : ByteRight) (b : Body) → x ≤ N → in_slots b M.slots ≡ true → (act N o M).right m x ≡ r → is_under b r ≡ true
        → slot_of b (act N o M).slots ≡ slot_of b M.slots
    unfolding act
    slot_kept m x r b k h e u =
        named_slot N (act N o M).right b (placed o.action M.slots) (body_named m x r b k e u) ∙ placed_slot o.action b M.slots h

    -- a right that the event leaves keeps its slot
    right_kept : (m : Mode) (x : ℕ) (r : ByteRight) → x ≤ N → InSlot M.slots r → (act N o M).right m x ≡ r
        → with_slot (act N o M).slots r ≡ with_slot M.slots r
    right_kept m x none k h e = refl
    right_kept m x (granted b) k h e = ap (λ (s : ℕ). Granted (record { 0 = s })) (slot_kept m x (granted b) b k h e (same_refl b))
    right_kept m x (recalled b) k h e = ap (λ (s : ℕ). Recalled (record { 0 = s })) (slot_kept m x (recalled b) b k h e (same_refl b))

    changed : (d : Action) (s : ℕ) (m : Mode) (x : ℕ) (r : ByteRight) → o.action ≡ d → ChoiceIs d M.slots s → x ≤ N → InSlot M.slots r
        → (act N o M).right m x ≡ right_after d r
        → with_slot (act N o M).slots (right_after d r) ≡ changed_right (change_for d s) (with_slot M.slots r)
    unfolding act
    changed (grants b) s m x r f g k h e =
        let n = body_named m x (granted b) b k e (same_refl b) in
        let p : slot_of b (act N o M).slots ≡ s =
        named_slot N (act N o M).right b (placed o.action M.slots) n ∙ (ap (λ (d : Action). slot_of b (placed d M.slots)) f ∙ g) in
        ap (λ (s : ℕ). Granted (record { 0 = s })) p
    changed returns s m x r f g k h e = refl
    changed revokes s m x r f g k h e = refl
    changed recalls s m x none f g k h e = refl
    changed recalls s m x (granted b) f g k h e = right_kept m x (recalled b) k h e
    changed recalls s m x (recalled b) f g k h e = right_kept m x (recalled b) k h e

    act_at : (c : Bool) (m : Mode) (x : ℕ) → covers o m x ≡ c → (act N o M).right m x ≡ pick c (right_after o.action (M.right m x)) (M.right m x)
    unfolding act after_at
    act_at c m x e = ap (λ (c : Bool). pick c (right_after o.action (M.right m x)) (M.right m x)) e

    pub rights_agree : (s : ℕ) → ChoiceIs o.action M.slots s → (m : Mode) (x : ℕ) → x ≤ N → InSlot M.slots (M.right m x)
        → with_slot (act N o M).slots (after_at o m x (M.right m x))
        ≡ pick (covers o m x) (changed_right (change_for o.action s) (with_slot M.slots (M.right m x))) (with_slot M.slots (M.right m x))
    unfolding after_at pick
    rights_agree s g m x k h = go (covers o m x) refl
      where
        go : (c : Bool) → covers o m x ≡ c
            → with_slot (act N o M).slots (pick c (right_after o.action (M.right m x)) (M.right m x))
            ≡ pick c (changed_right (change_for o.action s) (with_slot M.slots (M.right m x))) (with_slot M.slots (M.right m x))
        go true e = changed o.action s m x (M.right m x) refl g k h (act_at true m x e)
        go false e = right_kept m x (M.right m x) k h (act_at false m x e)
