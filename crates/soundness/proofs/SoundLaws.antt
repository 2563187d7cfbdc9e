-- The model's table and store are sound.
use Prim.Native.Nat.{ℕ, zero, suc, ◌+◌, ◌-◌, ◌≤◌}
use mathlib.Core.Path.{◌≡◌, refl, sym, ap, ◌∙◌}
use mathlib.Core.Bool.{Bool, true, false, not, ◌&&◌}
use mathlib.Core.List.{List, [], ◌∷◌}
use native.Mathlib.Omega.{arith}
use native.Mathlib.Decide.{dec_le}
use borrow.Author.Tests.{le-leb, lt-ltb, eq-eqb, eqb-true}
use lib.Dec.{eqb, ltb}
use lib.ListN.{length, get_or, replicate}
use lib.Seq.{drop-append_seam}
use Rattle.base.specs.Lists.{padded}
use Rattle.segments.specs.declared.Right.{Right}
use Rattle.segments.specs.declared.Right.TheVariants.{None}
use Rattle.segments.specs.declared.Segment.{Segment}
use Rattle.segments.specs.Segments.{Mode, READ, RW, blank, in_entries, right_at, same_right}
use Rattle.segments.proofs.Canon.{Canon, at_in, at_past, canon_under, same_right_true}
use Rattle.segments.proofs.ScanLaws.{segments_past}
use Rattle.store.specs.Store.{Body, Slot, empty, holds, slot_bytes, store_of}
use Rattle.store.proofs.SlotLaws.{body_back, empty_zero, kind_holds, length_holds, zeros_after}
use Rattle.store.proofs.StoreLaws.{length_store}
use Rattle.model.specs.Model.{ByteRight, none, granted, recalled, Model, in_slots, segments_in, slot_of, table_of, with_slot}
use Rattle.soundness.specs.Sound.{all_blank, apart, apart_from_next, has_slot, is_in_order, segments_sound, slot_sound, slots_sound, sound}
use Rattle.model.proofs.ModelSlotLaws.{in_small}
use Rattle.model.specs.Invariants.{InSlot, Invariant}
use Rattle.model.proofs.Decode.{is_holding, list_of_lem, model_canon, named_is, shown, slot_bytes_lem, slots_back, whole}
use Rattle.soundness.proofs.SoundParts.{fit_whole}

-- ---- segments

canon_apart : (s : Segment) (l : List Segment) → Canon (suc s.last) s.right l → apart_from_next s l ≡ true
unfolding Canon apart_from_next apart
canon_apart s [] c = refl
canon_apart s (b ∷ l) c = rw (lt-ltb s.last b.first c.0) (go (eqb (suc s.last) b.first) (same_right s.right b.right) refl refl)
  where
    go : (t u : Bool) → eqb (suc s.last) b.first ≡ t → same_right s.right b.right ≡ u → not (t && u) ≡ true
    go true true h k =
        absurd (c.3 (sym (eqb-true (suc s.last) b.first h)) (sym (same_right_true s.right b.right k)))
    go true false h k = refl
    go false u h k = refl

-- a canonical list of which each shown right has a slot is in order
pub canon_in_order : (lo : ℕ) (r : Right) (l : List Segment) → Canon lo r l
    → ((x : ℕ) → (right_at l x ≡ None → ⊥) → has_slot (right_at l x) ≡ true) → is_in_order l ≡ true
unfolding Canon is_in_order
canon_in_order lo r [] c h = refl
canon_in_order lo r (s ∷ l) c h =
    let e : right_at (s ∷ l) s.first ≡ s.right = at_in s l s.first (omega arith) c.1 in
    let p : has_slot s.right ≡ true = ap has_slot (sym e) ∙ h s.first (λ k. c.2 (sym e ∙ k)) in
    rw (fit_whole s (record { some = c.1; under = p }), canon_apart s l c.4)
    (canon_in_order (suc s.last) s.right l c.4 (λ x n. tail x n (dec_le x s.last)))
  where
    tail : (x : ℕ) → (right_at l x ≡ None → ⊥) → Dec (x ≤ s.last) → has_slot (right_at l x) ≡ true
    tail x n (yes d) = absurd (n (canon_under (suc s.last) s.right l c.4 x (omega arith)))
    tail x n (no d) =
        let e : right_at (s ∷ l) x ≡ right_at l x = at_past s l x (omega arith) in
        ap has_slot (sym e) ∙ h x (λ k. n (sym e ∙ k))

blanks : (n : ℕ) → all_blank (replicate n blank) ≡ true
unfolding all_blank
blanks zero = refl
blanks (suc n) = blanks n

entries_sound : (l : List Segment) → length l ≤ 32 → is_in_order l ≡ true → segments_sound (in_entries l) ≡ true
unfolding segments_sound in_entries padded
entries_sound l h o =
    rw (le-leb (length l) 32 h, list_of_lem l, o, drop-append_seam l (replicate (32 - length l) blank)) (blanks (32 - length l))

module _ (N : ℕ) (M : Model) (v : Invariant N M) where
  slot_small : (b : Body) → in_slots b M.slots ≡ true → ltb (slot_of b M.slots) 8 ≡ true
  slot_small b h =
      let k : length M.slots ≡ 8 = v.eight in
      let i = in_small b M.slots h in
      lt-ltb (slot_of b M.slots) 8 (omega arith)

  in_slot_slot : (r : ByteRight) → InSlot M.slots r → (with_slot M.slots r ≡ None → ⊥) → has_slot (with_slot M.slots r) ≡ true
  in_slot_slot none h n = absurd (n refl)
  in_slot_slot (granted b) h n = slot_small b h
  in_slot_slot (recalled b) h n = slot_small b h

  shown_slot : (m : Mode) (x : ℕ) → (right_at (segments_in N M m) x ≡ None → ⊥) → has_slot (right_at (segments_in N M m) x) ≡ true
  unfolding segments_in
  shown_slot m x n = go (dec_le x N)
    where
      go : Dec (x ≤ N) → has_slot (right_at (segments_in N M m) x) ≡ true
      go (yes h) =
          let e = shown N M m x h in
          ap has_slot e ∙ in_slot_slot (M.right m x) (v.in_slot m x h) (λ k. n (e ∙ k))
      go (no h) = absurd (n (segments_past N (λ x. with_slot M.slots (M.right m x)) x (omega arith)))

  model_in_order : (m : Mode) → is_in_order (segments_in N M m) ≡ true
  model_in_order m = canon_in_order 0 None (segments_in N M m) (model_canon N M m) (shown_slot m)

  -- ---- slots

  slot_sound_lem : (i : ℕ) (s : Slot) → get_or M.slots i empty ≡ s → slot_sound (is_holding s) (slot_bytes s) ≡ true
  unfolding slot_sound slot_bytes
  slot_sound_lem i empty e = empty_zero
  slot_sound_lem i (holds b) e =
      let g = v.good i b e in
      rw (length_holds b g.small, kind_holds b, body_back b g.small, le-leb (length b) 4090 g.small, g.read)
      (zeros_after b)

  slots_sound_lem : (k i : ℕ) → i + k ≡ 8 → slots_sound (table_of N M) (store_of M.slots) k i ≡ true
  unfolding slots_sound
  slots_sound_lem zero i h = refl
  slots_sound_lem (suc k) i h =
      rw (named_is N M v i, slot_bytes_lem N M v i (omega arith), slot_sound_lem i (get_or M.slots i empty) refl)
      (slots_sound_lem k (suc i) (omega arith))

  pub model_sound : sound (table_of N M) (store_of M.slots) ≡ true
  unfolding sound table_of
  model_sound =
      let k : length M.slots ≡ 8 = v.eight in
      let n : length (store_of M.slots) ≡ 32768 = length_store M.slots (whole N M v) ∙ omega arith in
      rw (
        entries_sound (segments_in N M READ) (v.few READ) (model_in_order READ),
        entries_sound (segments_in N M RW) (v.few RW) (model_in_order RW),
        slots_sound_lem 8 0 refl,
        slots_back N M v,
        v.distinct,
      )
      (eq-eqb (length (store_of M.slots)) 32768 n)
