-- Every sound table and store are those of a model: its rights are the ones that table and store show, its slots those that they have.
use Prim.Native.Nat.{ℕ, zero, suc, ◌+◌, ◌-◌, ◌*◌, ◌≤◌, ◌<◌, min}
use mathlib.Core.Path.{◌≡◌, refl, sym, ap, ap₂, ◌∙◌}
use mathlib.Core.Bool.{Bool, true, false, not, ◌&&◌, ◌||◌, false≢true}
use mathlib.Core.List.{List, [], ◌∷◌, ◌++◌}
use native.Mathlib.Omega.{arith}
use borrow.Author.Tests.{ltb-true, eqb-true, le-leb, not-true, eq-eqb}
use lib.Dec.{ltb, eqb}
use lib.ListN.{length, drop, get_or, replicate, length-take, length-drop, take-append-drop, drop_of_length-le}
use lib.Seq.{drop-drop}
use Rattle.base.specs.Answer.{pick}
use Rattle.base.specs.Lists.{Each, padded}
use Rattle.base.specs.Ranges.{last_byte}
use Rattle.base.proofs.AnswerLaws.{both}
use Rattle.octets.specs.Numbers.{AllBytes, bytes_from, le_at, le_bytes, le_value}
use Rattle.octets.proofs.NumberLaws.{dropped_bytes, le_back, length_bytes, taken_bytes}
use Rattle.segments.specs.declared.Right.{Right}
use Rattle.segments.specs.declared.Right.TheVariants.{None}
use Rattle.segments.specs.declared.Segment.{Segment}
use Rattle.segments.specs.declared.Segments.{Segments}
use Rattle.segments.specs.declared.Table.{Table}
use Rattle.segments.specs.Segments.{Mode, READ, RW, any_names, blank, in_entries, is_named, is_of_slot, list_in, list_of, right_at, same_right, segments_for, segments_of}
use Rattle.segments.proofs.Canon.{Below, Canon, same_right_true, same_right_refl}
use Rattle.segments.proofs.Fewest.{same_segment, scan_only}
use Rattle.segments.proofs.ScanLaws.{any_found, segments_ext}
use Rattle.segments.proofs.SegmentTests.{names_scan}
use Rattle.store.specs.Store.{Body, empty, holds, body_in, kind_in, length_in, slot_at, slot_bytes, store_of}
use Rattle.octets.proofs.ZeroLaws.{zeros_are}
use Rattle.model.specs.Model.{any_byte, is_under, segments_in, table_of}
use Rattle.model.specs.SlotsShown.{slots_from, slots_in}
use Rattle.soundness.specs.Sound.{all_blank, apart, apart_from_next, has_slot, is_in_order, is_blank, segments_sound, slot_sound, slots_sound, sound}
use Rattle.model.specs.Claim.{right_in}
use Rattle.model.specs.Invariants.{GoodBody, InSlot, Invariant}
use Rattle.soundness.specs.AnyTable.{EndsBy, OfModel, Typed, model_of}
use Rattle.model.proofs.Inv.{any_byte_lem}
use Rattle.soundness.proofs.SoundLaws.{model_sound}
use Rattle.soundness.proofs.SoundParts.{Sounds, holding, in_order, listed, named_sound, slots_long, sound_list, sound_slot, sounds}
use Rattle.soundness.proofs.SoundRights.{under_at}
use Rattle.model.proofs.SlotRights.{in_slot_under, of_slot_under, slot_forth}

-- ---- segments

some_right : (r : Right) → has_slot r ≡ true → r ≡ None → ⊥
some_right r h e = false≢true (sym (ap has_slot e) ∙ h)

order_canon : (lo : ℕ) (r : Right) (s : Segment) (l : List Segment) → lo ≤ s.first → (s.first ≡ lo → s.right ≡ r → ⊥) → is_in_order (s ∷ l) ≡ true
    → Canon lo r (s ∷ l)
unfolding Canon apart_from_next apart
order_canon lo r s [] a b h =
    let o = in_order s [] h in
    (a, o.fit.some, some_right s.right o.fit.under, b, tt)
order_canon lo r s (c ∷ l) a b h =
    let o = in_order s (c ∷ l) h in
    let w = both (ltb s.last c.first) (not (eqb (suc s.last) c.first && same_right s.right c.right)) o.next in (
      a,
      o.fit.some,
      some_right s.right o.fit.under,
      b,
      order_canon (suc s.last) s.right c l (ltb-true s.last c.first w.0) (changes (not-true _ w.1)) o.rest,
    )
  where
    changes : (eqb (suc s.last) c.first && same_right s.right c.right) ≡ false → c.first ≡ suc s.last → c.right ≡ s.right → ⊥
    changes f e g = false≢true (sym f ∙ rw (eq-eqb (suc s.last) c.first (sym e), g) (same_right_refl s.right))

pub in_order_canon : (l : List Segment) → is_in_order l ≡ true → Canon 0 None l
unfolding Canon apart_from_next apart
in_order_canon [] h = tt
in_order_canon (s ∷ l) h = order_canon 0 None s l (omega arith) (λ e. some_right s.right (in_order s l h).fit.under) h

pub ends_below : (N : ℕ) (l : List Segment) → Each (EndsBy N) l → Below (suc N) l
unfolding Below
ends_below N [] h = tt
ends_below N (s ∷ l) h = (omega (arith, h.0), ends_below N l h.1)

-- blank entries are blank
blank_is : (s : Segment) → is_blank s ≡ true → s ≡ blank
blank_is s h =
    let p = both (eqb s.first 0 && eqb s.last 0) (same_right None s.right) h in
    let q = both (eqb s.first 0) (eqb s.last 0) p.0 in
    same_segment s blank (eqb-true s.first 0 q.0) (eqb-true s.last 0 q.1) (sym (same_right_true None s.right p.1))

all_blank_lem : (l : List Segment) → all_blank l ≡ true → l ≡ replicate (length l) blank
unfolding all_blank
all_blank_lem [] h = refl
all_blank_lem (s ∷ l) h =
    let p = both (is_blank s) (all_blank l) h in
    ap₂ {C = List Segment} (λ a b. a ∷ b) (blank_is s p.0) (all_blank_lem l p.1)

list_long : (g : Segments) → length g.items ≡ 32 → g.count ≤ 32 → length (list_of g) ≡ g.count
list_long g n h = let e : length (list_of g) ≡ min g.count (length g.items) = length-take g.count g.items in omega arith

entries_back : (g : Segments) → length g.items ≡ 32 → segments_sound g ≡ true → in_entries (list_of g) ≡ g
unfolding in_entries padded
entries_back g n h =
    let s = sound_list g h in
    let k : length (list_of g) ≡ g.count = list_long g n s.few in
    let d : length (drop g.count g.items) ≡ 32 - length (list_of g) =
    length-drop g.count g.items ∙ ap₂ (λ (a b : ℕ). a - b) n (sym k) in
    let e : replicate (32 - length (list_of g)) blank ≡ drop g.count g.items =
    ap (λ (m : ℕ). replicate m blank) (sym d) ∙ sym (all_blank_lem (drop g.count g.items) s.rest) in
    let p : list_of g ++ replicate (32 - length (list_of g)) blank ≡ g.items =
    ap (λ (l : List Segment). list_of g ++ l) e ∙ take-append-drop g.count g.items in
    λ i. record { items = p i; count = k i }

-- ---- slots

number_in : (k : ℕ) (slot : List ℕ) (at : ℕ) → at + k ≤ length slot → AllBytes slot → le_bytes k (le_at k slot at) ≡ bytes_from k slot at
unfolding le_at pick
number_in k slot at h b =
    let n : length (bytes_from k slot at) ≡ k = length_bytes k slot at h in
    rw (le-leb (at + k) (length slot) h)
    (ap (λ (m : ℕ). le_bytes m (le_value (bytes_from k slot at))) (sym n) ∙ le_back (bytes_from k slot at) (taken_bytes k (drop at slot) (dropped_bytes at slot b)))

body_long : (slot : List ℕ) → length slot ≡ 4096 → length_in slot ≤ 4090 → length (body_in slot) ≡ length_in slot
unfolding body_in
body_long slot n h = length_bytes (length_in slot) slot 6 (omega arith)

-- a slot that is sound is laid out from what it says
laid_back : (slot : List ℕ) → length slot ≡ 4096 → AllBytes slot → slot_sound true slot ≡ true → slot_bytes (holds (body_in slot)) ≡ slot
unfolding slot_bytes length_in kind_in body_in
laid_back slot n b h =
    let s = sound_slot slot h in
    let k = length_in slot in
    let small : k ≤ 4090 = s.small in
    let long : length (body_in slot) ≡ k = body_long slot n small in
    let head : le_bytes 4 (length (body_in slot)) ≡ bytes_from 4 slot 0 = ap (le_bytes 4) long ∙ first4 in
    let kind : le_bytes 2 4 ≡ bytes_from 2 slot 4 = ap (le_bytes 2) (sym s.kind) ∙ next2 in
    let tail : length (drop (6 + k) slot) ≡ 4090 - length (body_in slot) =
    length-drop (6 + k) slot ∙ (let e : length slot - (6 + k) ≡ 4090 - length (body_in slot) = omega arith in e) in
    let zs : replicate (4090 - length (body_in slot)) 0 ≡ drop (6 + k) slot =
    ap (λ (m : ℕ). replicate m 0) (sym tail) ∙ sym (zeros_are (drop (6 + k) slot) s.rest) in
    rw (head, kind, zs) (together k)
  where
    first4 : le_bytes 4 (length_in slot) ≡ bytes_from 4 slot 0
    first4 = number_in 4 slot 0 (omega arith) b

    next2 : le_bytes 2 (kind_in slot) ≡ bytes_from 2 slot 4
    next2 = number_in 2 slot 4 (omega arith) b

    together : (k : ℕ) → bytes_from 4 slot 0 ++ (bytes_from 2 slot 4 ++ (body_in slot ++ drop (6 + length_in slot) slot)) ≡ slot
    together k =
        let body : bytes_from (length_in slot) slot 6 ++ drop (6 + length_in slot) slot ≡ drop 6 slot =
        ap (λ (l : List ℕ). bytes_from (length_in slot) slot 6 ++ l) (sym (drop-drop (length_in slot) 6 slot)) ∙ take-append-drop (length_in slot) (drop 6 slot) in
        let two : bytes_from 2 slot 4 ++ drop 6 slot ≡ drop 4 slot =
        ap (λ (l : List ℕ). bytes_from 2 slot 4 ++ l) (sym (drop-drop 2 4 slot)) ∙ take-append-drop 2 (drop 4 slot) in
        rw (body, two) (take-append-drop 4 slot)

zero_back : (slot : List ℕ) → length slot ≡ 4096 → slot_sound false slot ≡ true → slot_bytes empty ≡ slot
unfolding slot_bytes slot_sound
zero_back slot n h = ap (λ (m : ℕ). replicate m 0) (sym n) ∙ sym (zeros_are slot h)

module _ (t : Table) (store : List ℕ) (long : length store ≡ 32768) (bytes : AllBytes store) where
  slot_long : (i : ℕ) → i < 8 → length (slot_at store i) ≡ 4096
  slot_long i h = length_bytes 4096 store (i * 4096) (omega arith)

  slot_bytes_are : (i : ℕ) → AllBytes (slot_at store i)
  slot_bytes_are i = taken_bytes 4096 (drop (i * 4096) store) (dropped_bytes (i * 4096) store bytes)

  one_back : (i : ℕ) → i < 8 → slot_sound (is_named t i) (slot_at store i) ≡ true
      → slot_bytes (pick (is_named t i) (holds (body_in (slot_at store i))) empty) ≡ slot_at store i
  unfolding pick
  one_back i h s = go (is_named t i) s
    where
      go : (b : Bool) → slot_sound b (slot_at store i) ≡ true → slot_bytes (pick b (holds (body_in (slot_at store i))) empty) ≡ slot_at store i
      go true s = laid_back (slot_at store i) (slot_long i h) (slot_bytes_are i) s
      go false s = zero_back (slot_at store i) (slot_long i h) s

  store_back : (k i : ℕ) → i + k ≡ 8 → slots_sound t store k i ≡ true → store_of (slots_from (is_named t) store k i) ≡ drop (i * 4096) store
  unfolding store_of slots_from slots_sound
  store_back zero i h s = sym (drop_of_length-le store {i = i * 4096} (omega arith))
  store_back (suc k) i h s =
      let p = both (slot_sound (is_named t i) (slot_at store i)) (slots_sound t store k (suc i)) s in
      let e : i * 4096 + 4096 ≡ suc i * 4096 = omega arith in
      ap₂ (λ (a b : List ℕ). a ++ b) (one_back i (omega arith) p.0) (store_back k (suc i) (omega arith) p.1)
      ∙ (ap (λ (m : ℕ). slot_at store i ++ drop m store) (sym e)
      ∙ (ap (λ (l : List ℕ). slot_at store i ++ l) (sym (drop-drop 4096 (i * 4096) store)) ∙ take-append-drop 4096 (drop (i * 4096) store)))

-- ---- the model of a table and a store

module _ (N : ℕ) (t : Table) (store : List ℕ) (y : Typed N t store) (s : Sounds t store) where
  -- a list is the one worked out afresh from what it shows
  afresh : (m : Mode) → list_in t m ≡ segments_of N (right_at (list_in t m))
  afresh m = scan_only N (right_at (list_in t m)) (list_in t m) (in_order_canon (list_in t m) (listed t store s m).rising) (ends_below N (list_in t m) (y.ends m)) (λ x h. refl)

  good_slot : (i : ℕ) (b : Body) → get_or (slots_in t store) i empty ≡ holds b → GoodBody b
  unfolding body_in
  good_slot i b h =
      let w = holding t store s i b h in
      let g = named_sound t store s i w.small w.named in
      rw (← w.body)
      (record {
        read = g.read;
        small = let e = body_long (slot_at store i) (slot_long t store s.long y.bytes i w.small) g.small in omega (arith, e, g.small);
        bytes = body_bytes i;
      })
    where
      body_bytes : (i : ℕ) → AllBytes (body_in (slot_at store i))
      body_bytes i = taken_bytes (length_in (slot_at store i)) (drop 6 (slot_at store i)) (dropped_bytes 6 (slot_at store i) (slot_bytes_are t store s.long y.bytes i))

  lists_back : (m : Mode) → segments_in N (model_of t store) m ≡ list_in t m
  unfolding segments_in model_of right_in
  lists_back m =
      segments_ext N _ (right_at (list_in t m))
      (λ x h. slot_forth (slots_in t store) (right_at (list_in t m) x) s.distinct (under_at t store s m x))
      ∙ sym (afresh m)

  pub table_of_sound : table_of N (model_of t store) ≡ t
  unfolding table_of
  table_of_sound = λ i. record { read = list READ i; rw = list RW i }
    where
      list : (m : Mode) → in_entries (segments_in N (model_of t store) m) ≡ segments_for t m
      list m = ap in_entries (lists_back m) ∙ entries_back (segments_for t m) (y.entries m) (s.lists m)

  pub store_of_sound : store_of (model_of t store).slots ≡ store
  unfolding model_of slots_in
  store_of_sound = store_back t store s.long y.bytes 8 0 refl s.slots

  -- a slot that holds a body is that of a right of some byte
  named_by_right : (i : ℕ) (b : Body) → get_or (slots_in t store) i empty ≡ holds b → any_byte N (λ m x. is_under b (right_in t store m x)) ≡ true
  unfolding is_named right_in
  named_by_right i b h = go (any_names i (list_in t READ)) refl (holding t store s i b h).named
    where
      found : (m : Mode) → any_names i (list_in t m) ≡ true → any_byte N (λ m x. is_under b (right_in t store m x)) ≡ true
      found m e =
          let r = any_found (λ x. is_of_slot i (right_at (list_in t m) x)) (suc N) (sym (names_scan N (right_at (list_in t m)) i) ∙ (ap (any_names i) (sym (afresh m)) ∙ e)) in
          any_byte_lem N (λ m x. is_under b (right_in t store m x)) m r.0 (let k = r.1 in omega arith)
          (of_slot_under (slots_in t store) i b (right_at (list_in t m) r.0) h r.2)

      go : (n : Bool) → any_names i (list_in t READ) ≡ n → (any_names i (list_in t READ) || any_names i (list_in t RW)) ≡ true
          → any_byte N (λ m x. is_under b (right_in t store m x)) ≡ true
      go true e f = found READ e
      go false e f = found RW (rw e at f)

  pub sound_keeps : Invariant N (model_of t store)
  unfolding model_of slots_in right_in
  sound_keeps =
      record {
        eight = eight_slots;
        distinct = s.distinct;
        good = good_slot;
        in_slot = λ m x h. in_slot_right m x;
        few = λ m.
            let e : length (segments_in N (model_of t store) m) ≡ length (list_in t m) = ap length (lists_back m) in
            let k = list_long (segments_for t m) (y.entries m) (listed t store s m).few in
            omega (arith, e, k, (listed t store s m).few);
        named = named_by_right;
      }
    where
      eight_slots : length (slots_in t store) ≡ 8
      eight_slots = slots_long t store 8 0

      in_slot_right : (m : Mode) (x : ℕ) → InSlot (slots_in t store) (right_in t store m x)
      in_slot_right m x = in_slot_under (slots_in t store) (right_at (list_in t m) x)

-- ---- sound is: of a model

pub sound_of_model : (t : Table) (store : List ℕ) → Typed last_byte t store → sound t store ≡ true → OfModel t store
sound_of_model t store y h =
    let s = sounds t store h in
    record {
      model = model_of t store;
      kept = sound_keeps last_byte t store y s;
      same_table = table_of_sound last_byte t store y s;
      same_store = store_of_sound last_byte t store y s;
    }

pub of_model_sound : (t : Table) (store : List ℕ) → OfModel t store → sound t store ≡ true
of_model_sound t store o = sym (ap₂ sound o.same_table o.same_store) ∙ model_sound last_byte o.model o.kept
