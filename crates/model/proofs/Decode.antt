-- The model's table and store lead back to its segments, slots and rights.
use Prim.Native.Nat.{ℕ, zero, suc, ◌+◌, ◌-◌, ◌≤◌, ◌<◌}
use mathlib.Core.Path.{◌≡◌, refl, sym, ap, ap₂, ◌∙◌}
use mathlib.Core.Bool.{Bool, true, false, ◌||◌}
use mathlib.Core.List.{List, ◌∷◌}
use native.Mathlib.Omega.{arith}
use borrow.Author.Tests.{eq-eqb, ne_eqb}
use lib.Dec.{eqb}
use lib.ListN.{length, drop, get_or, replicate, drop_of_length-le}
use lib.Seq.{take-append_seam, drop-cons}
use Rattle.base.specs.Answer.{pick}
use Rattle.base.specs.Lists.{padded}
use Rattle.octets.specs.Numbers.{same_bytes}
use Rattle.octets.proofs.SameLaws.{same_not, same_true}
use Rattle.segments.specs.declared.Right.{Right}
use Rattle.segments.specs.declared.Right.TheVariants.{None}
use Rattle.segments.specs.declared.Segment.{Segment}
use Rattle.segments.specs.Segments.{Mode, READ, RW, any_names, blank, in_entries, is_named, is_of_slot, list_in, list_of, right_at}
use Rattle.segments.proofs.Canon.{Canon}
use Rattle.segments.proofs.ScanLaws.{any_ext, any_none, segments_canon, segments_show}
use Rattle.segments.proofs.SegmentTests.{names_scan}
use Rattle.store.specs.Store.{Body, Slot, empty, holds, body_in, slot_at, slot_bytes, store_of}
use Rattle.store.proofs.SlotLaws.{body_back, length_empty, length_slot}
use Rattle.store.proofs.StoreLaws.{AllWhole, slot_is_at}
use Rattle.model.specs.Model.{ByteRight, none, granted, recalled, Model, any_byte, in_slots, is_under, segments_in, slot_of, table_of, with_slot}
use Rattle.model.specs.SlotsShown.{all_distinct, slots_from, slots_in}
use Rattle.model.specs.Claim.{right_in, under_slot, with_body}
use Rattle.model.proofs.ModelSlotLaws.{empty_holds, held_body, held_slot, in_found}
use Rattle.model.specs.Invariants.{InSlot, Invariant}

-- ---- segments

pub list_of_lem : (l : List Segment) → list_of (in_entries l) ≡ l
unfolding in_entries padded
list_of_lem l = take-append_seam l (replicate (32 - length l) blank)

pub list_in_lem : (N : ℕ) (M : Model) (m : Mode) → list_in (table_of N M) m ≡ segments_in N M m
unfolding table_of
list_in_lem N M READ = list_of_lem (segments_in N M READ)
list_in_lem N M RW = list_of_lem (segments_in N M RW)

pub shown : (N : ℕ) (M : Model) (m : Mode) (x : ℕ) → x ≤ N → right_at (segments_in N M m) x ≡ with_slot M.slots (M.right m x)
unfolding segments_in
shown N M m x h = segments_show N (λ x. with_slot M.slots (M.right m x)) x h

-- ---- the slot of a right

-- a right is of slot i where it is under the body there
pub of_slot : (ss : List Slot) (i : ℕ) (b : Body) (r : ByteRight) → all_distinct ss ≡ true → get_or ss i empty ≡ holds b → InSlot ss r
    → is_of_slot i (with_slot ss r) ≡ is_under b r
of_slot ss i b r a e h = go r h
  where
    same : (c : Body) → in_slots c ss ≡ true → eqb i (slot_of c ss) ≡ same_bytes b c
    same c k = test (same_bytes b c) refl
      where
        test : (t : Bool) → same_bytes b c ≡ t → eqb i (slot_of c ss) ≡ t
        test true f =
            let p : b ≡ c = same_true b c f in
            eq-eqb i (slot_of c ss) (sym (held_slot c ss i a (e ∙ ap holds p)))
        test false f =
            ne_eqb i (slot_of c ss) λ j.
            same_not b c f (held_body b c (sym e ∙ (ap (λ (n : ℕ). get_or ss n empty) j ∙ in_found c ss k)))

    go : (r : ByteRight) → InSlot ss r → is_of_slot i (with_slot ss r) ≡ is_under b r
    go none k = refl
    go (granted c) k = same c k
    go (recalled c) k = same c k

-- no right is of an empty slot
pub of_empty : (ss : List Slot) (i : ℕ) (r : ByteRight) → get_or ss i empty ≡ empty → InSlot ss r → is_of_slot i (with_slot ss r) ≡ false
of_empty ss i r e h = go r h
  where
    other : (c : Body) → in_slots c ss ≡ true → eqb i (slot_of c ss) ≡ false
    other c k =
        ne_eqb i (slot_of c ss) λ j. empty_holds c (sym e ∙ (ap (λ (n : ℕ). get_or ss n empty) j ∙ in_found c ss k))

    go : (r : ByteRight) → InSlot ss r → is_of_slot i (with_slot ss r) ≡ false
    go none k = refl
    go (granted c) k = other c k
    go (recalled c) k = other c k

pub with_back : (ss : List Slot) (r : ByteRight) → InSlot ss r → with_body ss (with_slot ss r) ≡ r
with_back ss none h = refl
with_back ss (granted b) h = ap (under_slot granted) (in_found b ss h)
with_back ss (recalled b) h = ap (under_slot recalled) (in_found b ss h)

-- ---- slots

-- each body has room in its slot
abbrev pub Fitting : List Slot → Type 0
Fitting ss = (i : ℕ) (b : Body) → get_or ss i empty ≡ holds b → length b ≤ 4090

pub fits_whole : (ss : List Slot) → Fitting ss → AllWhole ss
fits_whole ss h i = go (get_or ss i empty) refl
  where
    go : (s : Slot) → get_or ss i empty ≡ s → length (slot_bytes s) ≡ 4096
    go empty e = length_empty
    go (holds b) e = length_slot b (h i b e)

abbrev pub is_holding : Slot → Bool
is_holding empty = false
is_holding (holds b) = true

-- the table names a slot where a byte's right is of that slot
pub named_by : (N : ℕ) (M : Model) (i : ℕ) → is_named (table_of N M) i ≡ any_byte N (λ m x. is_of_slot i (with_slot M.slots (M.right m x)))
unfolding is_named any_byte segments_in
named_by N M i =
    ap₂ (λ (a b : Bool). a || b)
    (ap (any_names i) (list_in_lem N M READ) ∙ names_scan N (λ x. with_slot M.slots (M.right READ x)) i)
    (ap (any_names i) (list_in_lem N M RW) ∙ names_scan N (λ x. with_slot M.slots (M.right RW x)) i)

module _ (N : ℕ) (M : Model) (v : Invariant N M) where
  pub named_is : (i : ℕ) → is_named (table_of N M) i ≡ is_holding (get_or M.slots i empty)
  unfolding any_byte
  named_is i = named_by N M i ∙ go (get_or M.slots i empty) refl
    where
      go : (s : Slot) → get_or M.slots i empty ≡ s → any_byte N (λ m x. is_of_slot i (with_slot M.slots (M.right m x))) ≡ is_holding s
      go empty e =
          ap₂ (λ (a b : Bool). a || b)
          (any_none (λ x. is_of_slot i (with_slot M.slots (M.right READ x))) (suc N) (λ x h. of_empty M.slots i (M.right READ x) e (v.in_slot READ x (omega arith))))
          (any_none (λ x. is_of_slot i (with_slot M.slots (M.right RW x))) (suc N) (λ x h. of_empty M.slots i (M.right RW x) e (v.in_slot RW x (omega arith))))
      go (holds b) e =
          ap₂ (λ (a b : Bool). a || b)
          (any_ext (λ x. is_of_slot i (with_slot M.slots (M.right READ x))) (λ x. is_under b (M.right READ x)) (suc N) (λ x h. of_slot M.slots i b (M.right READ x) v.distinct e (v.in_slot READ x (omega arith))))
          (any_ext (λ x. is_of_slot i (with_slot M.slots (M.right RW x))) (λ x. is_under b (M.right RW x)) (suc N) (λ x h. of_slot M.slots i b (M.right RW x) v.distinct e (v.in_slot RW x (omega arith))))
          ∙ v.named i b e

  pub fitting : Fitting M.slots
  fitting i b e = (v.good i b e).small

  -- the bytes of a slot
  pub whole : AllWhole M.slots
  whole = fits_whole M.slots fitting

  pub slot_bytes_lem : (i : ℕ) → i < 8 → slot_at (store_of M.slots) i ≡ slot_bytes (get_or M.slots i empty)
  slot_bytes_lem i h = let e : length M.slots ≡ 8 = v.eight in slot_is_at M.slots i whole (omega arith)

  slot_back : (i : ℕ) → i < 8 → pick (is_named (table_of N M) i) (holds (body_in (slot_at (store_of M.slots) i))) empty ≡ get_or M.slots i empty
  unfolding pick
  slot_back i h = rw (named_is i, slot_bytes_lem i h) (go (get_or M.slots i empty) refl)
    where
      go : (s : Slot) → get_or M.slots i empty ≡ s → pick (is_holding s) (holds (body_in (slot_bytes s))) empty ≡ s
      go empty e = refl
      go (holds b) e = ap holds (body_back b (v.good i b e).small)

  slots_from_lem : (k i : ℕ) → i + k ≡ 8 → slots_from (is_named (table_of N M)) (store_of M.slots) k i ≡ drop i M.slots
  unfolding slots_from
  slots_from_lem zero i h = let e : length M.slots ≡ 8 = v.eight in sym (drop_of_length-le M.slots {i = i} (omega arith))
  slots_from_lem (suc k) i h =
      let e : length M.slots ≡ 8 = v.eight in
      ap₂ {C = List Slot} (λ a b. a ∷ b) (slot_back i (omega arith)) (slots_from_lem k (suc i) (omega arith))
      ∙ sym (drop-cons M.slots i empty (omega arith))

  pub slots_back : slots_in (table_of N M) (store_of M.slots) ≡ M.slots
  unfolding slots_in
  slots_back = slots_from_lem 8 0 refl

  pub right_back : (m : Mode) (x : ℕ) → x ≤ N → right_in (table_of N M) (store_of M.slots) m x ≡ M.right m x
  unfolding right_in
  right_back m x h =
      ap₂ (λ (ss : List Slot) (r : Right). with_body ss r) slots_back (ap (λ (l : List Segment). right_at l x) (list_in_lem N M m) ∙ shown N M m x h)
      ∙ with_back M.slots (M.right m x) (v.in_slot m x h)

-- ---- segments

pub model_canon : (N : ℕ) (M : Model) (m : Mode) → Canon 0 None (segments_in N M m)
unfolding segments_in
model_canon N M m = segments_canon N (λ x. with_slot M.slots (M.right m x))
