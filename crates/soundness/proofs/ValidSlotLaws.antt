-- Laws of the soundness of slots: the next slot and the ones after it, each alone and all distinct.
use Prim.Native.Nat.{ℕ, suc, ◌+◌, ◌-◌, ◌≤◌, ◌<◌}
use mathlib.Core.Path.{◌≡◌, refl, sym, ap, ◌∙◌}
use mathlib.Core.Bool.{Bool, true, false, not, ◌&&◌, ◌||◌, and-false}
use mathlib.Core.List.{List, ◌∷◌}
use native.Mathlib.Numerals.{add-one}
use native.Mathlib.Omega.{arith}
use borrow.Author.Tests.{eqb-false, eqb-true, le-ltb, lt-ltb, ltb-false, ltb-true}
use lib.Dec.{eqb, ltb}
use lib.ListN.{replicate}
use Rattle.std.specs.Prelude.{Result, Ok, Err}
use Rattle.std.specs.Result.{is_ok}
use Rattle.base.specs.Answer.{Answer, is_accepted, pick}
use Rattle.base.specs.declared.refusal.Fault.{Fault}
use Rattle.layout.specs.declared.body.Summary.{Summary}
use Rattle.layout.specs.Answers.{answer_of_layout, starts_in}
use Rattle.layout.specs.Layouts.{Layout, layout_body}
use Rattle.octets.specs.Numbers.{same_bytes}
use Rattle.segments.specs.declared.Table.{Table}
use Rattle.segments.specs.Segments.{is_named}
use Rattle.store.specs.Store.{Body, Slot, empty, holds, body_in, slot_at}
use Rattle.model.specs.Model.{in_slots}
use Rattle.model.specs.SlotsShown.{all_distinct, slots_from}
use Rattle.soundness.specs.Sound.{slot_sound, slots_sound, sound}
use Rattle.model.proofs.ModelSlotLaws.{next_slot, no_slot}
use Rattle.soundness.specs.Validations.{layout_if_sound, layout_named, not_read}

pub slots_next : (t : Table) (store : List ℕ) (n i : ℕ) → i < n
    → slots_sound t store (n - i) i ≡ (slot_sound (is_named t i) (slot_at store i) && slots_sound t store (n - (i + 1)) (i + 1))
unfolding slots_sound
slots_next t store n i h =
    let e : n - i ≡ suc (n - (i + 1)) = omega arith in
    rw (e, add-one i)

pub slots_none : (t : Table) (store : List ℕ) (n i : ℕ) → n ≤ i → slots_sound t store (n - i) i ≡ true
unfolding slots_sound
slots_none t store n i h =
    let e : n - i ≡ 0 = omega arith in
    rw e

-- a result that is a value stands for an accepted answer
pub ok_accepted : (a : Result Summary Fault) (starts : List ℕ) → is_accepted (answer_of_layout a starts) ≡ is_ok a
ok_accepted (Ok v) starts = refl
ok_accepted (Err e) starts = refl

-- ---- a body among slots

slot_or : (b : Bool) (x : Body) (c : Body) (ss : List Slot) → in_slots x (pick b (holds c) empty ∷ ss) ≡ ((b && same_bytes x c) || in_slots x ss)
unfolding in_slots pick
slot_or true x c ss = refl
slot_or false x c ss = refl

slot_alike : (b : Bool) (c : Body) (ss : List Slot) → all_distinct (pick b (holds c) empty ∷ ss) ≡ (not (b && in_slots c ss) && all_distinct ss)
unfolding all_distinct pick
slot_alike true c ss = refl
slot_alike false c ss = refl

pub held_next : (t : Table) (store : List ℕ) (x : Body) (n i : ℕ) → i < n
    → in_slots x (slots_from (is_named t) store (n - i) i) ≡ ((is_named t i && same_bytes x (body_in (slot_at store i))) || in_slots x (slots_from (is_named t) store (n - (i + 1)) (i + 1)))
held_next t store x n i h =
    ap (in_slots x) (next_slot (is_named t) store n i h)
    ∙ slot_or (is_named t i) x (body_in (slot_at store i)) (slots_from (is_named t) store (n - (i + 1)) (i + 1))

pub held_none : (t : Table) (store : List ℕ) (x : Body) (n i : ℕ) → n ≤ i → in_slots x (slots_from (is_named t) store (n - i) i) ≡ false
unfolding in_slots
held_none t store x n i h = ap (in_slots x) (no_slot (is_named t) store n i h)

pub distinct_next : (t : Table) (store : List ℕ) (n i : ℕ) → i < n
    → all_distinct (slots_from (is_named t) store (n - i) i)
    ≡ (not (is_named t i && in_slots (body_in (slot_at store i)) (slots_from (is_named t) store (n - (i + 1)) (i + 1))) && all_distinct (slots_from (is_named t) store (n - (i + 1)) (i + 1)))
distinct_next t store n i h =
    ap all_distinct (next_slot (is_named t) store n i h)
    ∙ slot_alike (is_named t i) (body_in (slot_at store i)) (slots_from (is_named t) store (n - (i + 1)) (i + 1))

pub distinct_none : (t : Table) (store : List ℕ) (n i : ℕ) → n ≤ i → all_distinct (slots_from (is_named t) store (n - i) i) ≡ true
unfolding all_distinct
distinct_none t store n i h = ap all_distinct (no_slot (is_named t) store n i h)

-- ---- one slot more

module _ (t : Table) (store : List ℕ) (n i : ℕ) (h : i < n) where
  pub slot_passed : slot_sound (is_named t i) (slot_at store i) ≡ true → slots_sound t store (n - i) i ≡ slots_sound t store (n - (i + 1)) (i + 1)
  slot_passed e = rw (slots_next t store n i h, e)

  pub slot_fails : slot_sound (is_named t i) (slot_at store i) ≡ false → slots_sound t store (n - i) i ≡ false
  slot_fails e = rw (slots_next t store n i h, e)

-- where nothing was read there are no starts
pub none_started : (a : Answer Layout) → not_read ≡ a → replicate 128 0 ≡ starts_in a
unfolding starts_in
none_started a e = ap starts_in e

module _ (t : Table) (store : List ℕ) (w : ℕ) where
  pub read_none : not_read ≡ layout_named t store w 0
  unfolding layout_named pick
  read_none = rw (le-ltb w 0 (omega arith))

  pub read_here : is_named t w ≡ true → layout_body (body_in (slot_at store w)) ≡ layout_named t store w (w + 1)
  unfolding layout_named pick
  read_here e = rw (lt-ltb w (w + 1) (omega arith), e)

  module _ (i : ℕ) where
    pub read_elsewhere : (i ≡ w → ⊥) → layout_named t store w i ≡ layout_named t store w (i + 1)
    unfolding layout_named
    read_elsewhere n = ap (λ (b : Bool). pick (b && is_named t w) (layout_body (body_in (slot_at store w))) not_read) (go (ltb w i) refl)
      where
        go : (b : Bool) → ltb w i ≡ b → ltb w i ≡ ltb w (i + 1)
        go true h = let k = ltb-true w i h in h ∙ sym (lt-ltb w (i + 1) (omega arith))
        go false h = let k = ltb-false w i h in h ∙ sym (le-ltb w (i + 1) (omega arith))

    pub read_unnamed : is_named t i ≡ false → layout_named t store w i ≡ layout_named t store w (i + 1)
    unfolding layout_named
    read_unnamed e = go (eqb i w) refl
      where
        go : (b : Bool) → eqb i w ≡ b → layout_named t store w i ≡ layout_named t store w (i + 1)
        go true h =
            let f : is_named t w ≡ false = ap (is_named t) (sym (eqb-true i w h)) ∙ e in
            rw (f, and-false (ltb w i), and-false (ltb w (i + 1)))
        go false h = read_elsewhere (eqb-false i w h)

  -- ---- the whole validation

  pub if_unsound : sound t store ≡ false → layout_if_sound t store w ≡ not_read
  unfolding layout_if_sound pick
  if_unsound e = rw e

  pub if_sound : sound t store ≡ true → layout_if_sound t store w ≡ layout_named t store w 8
  unfolding layout_if_sound pick
  if_sound e = rw e
