-- A sound table and store, taken apart: what holds of each list, of each slot, and of the slots together.
use Prim.Native.Nat.{ℕ, zero, suc, ◌+◌, ◌≤◌, ◌<◌}
use mathlib.Core.Path.{◌≡◌, refl, sym, ap, ◌∙◌}
use mathlib.Core.Bool.{Bool, true, false, ◌&&◌, or-true}
use mathlib.Core.List.{List, ◌∷◌}
use native.Mathlib.Omega.{arith}
use native.Mathlib.Decide.{dec_lt}
use borrow.Author.Tests.{le-leb, leb-true, eqb-true}
use lib.Dec.{leb, eqb}
use lib.ListN.{length, drop, get_or}
use Rattle.base.specs.Answer.{pick}
use Rattle.base.proofs.AnswerLaws.{both}
use Rattle.octets.specs.Numbers.{all_zero}
use Rattle.layout.specs.Layouts.{layout_body}
use Rattle.segments.specs.declared.Segment.{Segment}
use Rattle.segments.specs.declared.Segments.{Segments}
use Rattle.segments.specs.declared.Table.{Table}
use Rattle.segments.specs.Segments.{Mode, READ, RW, any_names, is_named, list_in, list_of, segments_for}
use Rattle.store.specs.Store.{Body, empty, holds, body_in, kind_in, length_in, slot_at}
use Rattle.base.specs.Answer.{is_accepted}
use Rattle.model.specs.SlotsShown.{all_distinct, slots_from, slots_in}
use Rattle.soundness.specs.Sound.{all_blank, apart_from_next, has_slot, is_in_order, is_fit, segments_sound, slot_sound, slots_sound, sound}
use Rattle.model.proofs.ModelSlotLaws.{empty_holds, held_body}

-- ---- lists

-- one segment by itself
pub record Fit (s : Segment) : Type 0 where
  pub some : s.first ≤ s.last
  pub under : has_slot s.right ≡ true

pub fit_parts : (s : Segment) → is_fit s ≡ true → Fit s
unfolding is_fit
fit_parts s h =
    let p = both (leb s.first s.last) (has_slot s.right) h in
    record { some = leb-true s.first s.last p.0; under = p.1 }

pub fit_whole : (s : Segment) → Fit s → is_fit s ≡ true
unfolding is_fit
fit_whole s f = rw (le-leb s.first s.last f.some, f.under)

-- the first segment of a list in order
pub record InOrder (s : Segment) (l : List Segment) : Type 0 where
  pub fit : Fit s
  pub next : apart_from_next s l ≡ true
  pub rest : is_in_order l ≡ true

pub in_order : (s : Segment) (l : List Segment) → is_in_order (s ∷ l) ≡ true → InOrder s l
unfolding is_in_order
in_order s l h =
    let p = both (is_fit s && apart_from_next s l) (is_in_order l) h in
    let q = both (is_fit s) (apart_from_next s l) p.0 in
    record { fit = fit_parts s q.0; next = q.1; rest = p.1 }

pub record SoundList (g : Segments) : Type 0 where
  pub few : g.count ≤ 32
  pub rising : is_in_order (list_of g) ≡ true
  pub rest : all_blank (drop g.count g.items) ≡ true

pub sound_list : (g : Segments) → segments_sound g ≡ true → SoundList g
unfolding segments_sound
sound_list g h =
    let p = both (leb g.count 32 && is_in_order (list_of g)) (all_blank (drop g.count g.items)) h in
    let q = both (leb g.count 32) (is_in_order (list_of g)) p.0 in
    record { few = leb-true g.count 32 q.0; rising = q.1; rest = p.1 }

-- ---- slots

pub record SoundSlot (slot : List ℕ) : Type 0 where
  pub small : length_in slot ≤ 4090
  pub kind : kind_in slot ≡ 4
  pub read : is_accepted (layout_body (body_in slot)) ≡ true
  pub rest : all_zero (drop (6 + length_in slot) slot) ≡ true

pub sound_slot : (slot : List ℕ) → slot_sound true slot ≡ true → SoundSlot slot
unfolding slot_sound
sound_slot slot h =
    let p = both (leb (length_in slot) 4090 && eqb (kind_in slot) 4 && is_accepted (layout_body (body_in slot))) (all_zero (drop (6 + length_in slot) slot)) h in
    let q = both (leb (length_in slot) 4090 && eqb (kind_in slot) 4) (is_accepted (layout_body (body_in slot))) p.0 in
    let u = both (leb (length_in slot) 4090) (eqb (kind_in slot) 4) q.0 in
    record { small = leb-true (length_in slot) 4090 u.0; kind = eqb-true (kind_in slot) 4 u.1; read = q.1; rest = p.1 }

module _ (t : Table) (store : List ℕ) where
  -- what slot i has
  slot_in : (k i j : ℕ) → j < k → get_or (slots_from (is_named t) store k i) j empty ≡ pick (is_named t (i + j)) (holds (body_in (slot_at store (i + j)))) empty
  unfolding slots_from
  slot_in zero i j h = absurd (omega arith)
  slot_in (suc k) i zero h = let e : i + 0 ≡ i = omega arith in rw e
  slot_in (suc k) i (suc j) h =
      let e : i + suc j ≡ suc i + j = omega arith in
      slot_in k (suc i) j (omega arith) ∙ rw e

  slot_out : (k i j : ℕ) → k ≤ j → get_or (slots_from (is_named t) store k i) j empty ≡ empty
  unfolding slots_from
  slot_out zero i j h = refl
  slot_out (suc k) i zero h = absurd (omega arith)
  slot_out (suc k) i (suc j) h = slot_out k (suc i) j (omega arith)

  pub slots_long : (k i : ℕ) → length (slots_from (is_named t) store k i) ≡ k
  unfolding slots_from
  slots_long zero i = refl
  slots_long (suc k) i = ap suc (slots_long k (suc i))

  sound_at : (k i j : ℕ) → slots_sound t store k i ≡ true → j < k → slot_sound (is_named t (i + j)) (slot_at store (i + j)) ≡ true
  unfolding slots_sound
  sound_at zero i j s h = absurd (omega arith)
  sound_at (suc k) i zero s h =
      let p = both (slot_sound (is_named t i) (slot_at store i)) (slots_sound t store k (suc i)) s in
      let e : i + 0 ≡ i = omega arith in
      rw e p.0
  sound_at (suc k) i (suc j) s h =
      let p = both (slot_sound (is_named t i) (slot_at store i)) (slots_sound t store k (suc i)) s in
      let e : i + suc j ≡ suc i + j = omega arith in
      rw e (sound_at k (suc i) j p.1 (omega arith))

-- ---- table and store

pub record Sounds (t : Table) (store : List ℕ) : Type 0 where
  pub lists : (m : Mode) → segments_sound (segments_for t m) ≡ true
  pub slots : slots_sound t store 8 0 ≡ true
  pub distinct : all_distinct (slots_in t store) ≡ true
  pub long : length store ≡ 32768

pub sounds : (t : Table) (store : List ℕ) → sound t store ≡ true → Sounds t store
unfolding sound
sounds t store h =
    let lists = segments_sound t.read && segments_sound t.rw in
    let slots = lists && slots_sound t store 8 0 in
    let p = both (slots && all_distinct (slots_in t store)) (eqb (length store) 32768) h in
    let q = both slots (all_distinct (slots_in t store)) p.0 in
    let u = both lists (slots_sound t store 8 0) q.0 in
    let w = both (segments_sound t.read) (segments_sound t.rw) u.0 in
    record { lists = both_lists w.0 w.1; slots = u.1; distinct = q.1; long = eqb-true (length store) 32768 p.1 }
  where
    both_lists : segments_sound t.read ≡ true → segments_sound t.rw ≡ true → (m : Mode) → segments_sound (segments_for t m) ≡ true
    both_lists a b READ = a
    both_lists a b RW = b

module _ (t : Table) (store : List ℕ) (s : Sounds t store) where
  pub listed : (m : Mode) → SoundList (segments_for t m)
  listed m = sound_list (segments_for t m) (s.lists m)

  pub named_in : (m : Mode) (i : ℕ) → any_names i (list_in t m) ≡ true → is_named t i ≡ true
  unfolding is_named
  named_in READ i e = rw e
  named_in RW i e = rw e (or-true (any_names i (list_in t READ)))

  pub slot_is : (i : ℕ) → i < 8 → get_or (slots_in t store) i empty ≡ pick (is_named t i) (holds (body_in (slot_at store i))) empty
  unfolding slots_in
  slot_is i h =
      slot_in t store 8 0 i h
      ∙ ap (λ (k : ℕ). pick (is_named t k) (holds (body_in (slot_at store k))) empty) (let e : 0 + i ≡ i = omega arith in e)

  slot_none : (i : ℕ) → 8 ≤ i → get_or (slots_in t store) i empty ≡ empty
  unfolding slots_in
  slot_none i h = slot_out t store 8 0 i h

  pub slot_sound_at : (i : ℕ) → i < 8 → slot_sound (is_named t i) (slot_at store i) ≡ true
  slot_sound_at i h = let e : 0 + i ≡ i = omega arith in rw e at (sound_at t store 8 0 i s.slots h)

  pub named_sound : (i : ℕ) → i < 8 → is_named t i ≡ true → SoundSlot (slot_at store i)
  named_sound i h n = sound_slot (slot_at store i) (rw n at (slot_sound_at i h))

  -- a slot that holds a body is named, and the body is the one that its bytes say
  pub record Holding (i : ℕ) (b : Body) : Type 0 where
    pub small : i < 8
    pub named : is_named t i ≡ true
    pub body : body_in (slot_at store i) ≡ b

  pub holding : (i : ℕ) (b : Body) → get_or (slots_in t store) i empty ≡ holds b → Holding i b
  unfolding pick
  holding i b h = go (dec_lt i 8)
    where
      at : (n : Bool) → is_named t i ≡ n → i < 8 → pick n (holds (body_in (slot_at store i))) empty ≡ holds b → Holding i b
      at true e k f = record { small = k; named = e; body = held_body (body_in (slot_at store i)) b f }
      at false e k f = absurd (empty_holds b f)

      go : Dec (i < 8) → Holding i b
      go (yes k) = at (is_named t i) refl k (sym (slot_is i k) ∙ h)
      go (no k) = absurd (empty_holds b (sym (slot_none i (omega arith)) ∙ h))
