-- A walk over the eight slots: what is left to look at, and what is found on the way.
use Prim.Native.Nat.{ℕ, suc, ◌+◌, ◌-◌, ◌≤◌, ◌<◌}
use mathlib.Core.Path.{◌≡◌, refl, ap, ◌∙◌}
use mathlib.Core.Bool.{Bool, true, false, not, ◌&&◌}
use mathlib.Core.List.{List, ◌∷◌}
use native.Mathlib.Omega.{arith}
use Rattle.base.specs.Answer.{pick}
use Rattle.octets.specs.Numbers.{same_bytes}
use Rattle.store.specs.Store.{Body, Slot, empty, holds, body_in, slot_at, slot_set}
use Rattle.model.specs.Model.{in_slots, none_empty, slot_of}
use Rattle.model.specs.SlotsShown.{slots_from}
use Rattle.model.proofs.ModelSlotLaws.{next_slot, no_slot}
use Rattle.slots.specs.declared.choice.SlotChoice.TheVariants.{Holding, Free, NoneLeft}
use Rattle.slots.specs.Slots.{cleared_from, free_choice, slot_choice, lowest_empty}

-- ---- the lowest slot that no segment names

pub record NamedTo (named : ℕ → Bool) (bytes : List ℕ) (i : ℕ) : Type 0 where
  pub none : none_empty (slots_from named bytes 8 0) ≡ none_empty (slots_from named bytes (8 - i) i)
  pub lowest : lowest_empty (slots_from named bytes 8 0) ≡ i + lowest_empty (slots_from named bytes (8 - i) i)

pub named_start : (named : ℕ → Bool) (bytes : List ℕ) → NamedTo named bytes 0
named_start named bytes = record { none = refl; lowest = omega arith }

module _ (named : ℕ → Bool) (bytes : List ℕ) (i : ℕ) (n : NamedTo named bytes i) where
  pub named_next : i < 8 → named i ≡ true → NamedTo named bytes (i + 1)
  unfolding none_empty lowest_empty pick
  named_next h e =
      let a : none_empty (slots_from named bytes (8 - i) i) ≡ none_empty (slots_from named bytes (8 - (i + 1)) (i + 1)) = rw (next_slot named bytes 8 i h, e) refl in
      let b : lowest_empty (slots_from named bytes (8 - i) i) ≡ suc (lowest_empty (slots_from named bytes (8 - (i + 1)) (i + 1))) = rw (next_slot named bytes 8 i h, e) refl in
      record { none = n.none ∙ a; lowest = omega (arith, n.lowest, b) }

  pub not_named : i < 8 → named i ≡ false → Free (record { 0 = i }) ≡ free_choice (slots_from named bytes 8 0)
  unfolding none_empty lowest_empty pick free_choice
  not_named h e =
      let a : none_empty (slots_from named bytes (8 - i) i) ≡ false = rw (next_slot named bytes 8 i h, e) refl in
      let b : lowest_empty (slots_from named bytes (8 - i) i) ≡ 0 = rw (next_slot named bytes 8 i h, e) refl in
      let c : lowest_empty (slots_from named bytes 8 0) ≡ i = omega (arith, n.lowest, b) in
      rw (n.none ∙ a, c) refl

  pub named_all : 8 ≤ i → NoneLeft ≡ free_choice (slots_from named bytes 8 0)
  unfolding none_empty pick free_choice
  named_all h =
      let a : none_empty (slots_from named bytes (8 - i) i) ≡ true = rw (no_slot named bytes 8 i h) refl in
      rw (n.none ∙ a) refl

-- ---- the slot that holds a body

pub record SoughtTo (b : Body) (named : ℕ → Bool) (bytes : List ℕ) (i : ℕ) : Type 0 where
  pub found : in_slots b (slots_from named bytes 8 0) ≡ in_slots b (slots_from named bytes (8 - i) i)
  pub index : slot_of b (slots_from named bytes 8 0) ≡ i + slot_of b (slots_from named bytes (8 - i) i)

pub sought_start : (b : Body) (named : ℕ → Bool) (bytes : List ℕ) → SoughtTo b named bytes 0
sought_start b named bytes = record { found = refl; index = omega arith }

module _ (b : Body) (named : ℕ → Bool) (bytes : List ℕ) (i : ℕ) (n : SoughtTo b named bytes i) where
  passed : (u v : Bool) (rest : List Slot) → same_bytes b (body_in (slot_at bytes i)) ≡ v → (u && v) ≡ false
      → (in_slots b (pick u (holds (body_in (slot_at bytes i))) empty ∷ rest) ≡ in_slots b rest)
      × (slot_of b (pick u (holds (body_in (slot_at bytes i))) empty ∷ rest) ≡ suc (slot_of b rest))
  unfolding in_slots slot_of pick
  passed true true rest e f = absurd (let z : ◌≡◌ {A = ℕ} 0 1 = cc in omega arith)
  passed true false rest e f = (rw e refl, rw e refl)
  passed false v rest e f = (refl, refl)

  pub sought_next : i < 8 → (named i && same_bytes b (body_in (slot_at bytes i))) ≡ false → SoughtTo b named bytes (i + 1)
  sought_next h e =
      let p = passed (named i) (same_bytes b (body_in (slot_at bytes i))) (slots_from named bytes (8 - (i + 1)) (i + 1)) refl e in
      let a : slot_of b (slots_from named bytes (8 - i) i) ≡ suc (slot_of b (slots_from named bytes (8 - (i + 1)) (i + 1))) = ap (slot_of b) (next_slot named bytes 8 i h) ∙ p.1 in
      record { found = n.found ∙ (ap (in_slots b) (next_slot named bytes 8 i h) ∙ p.0); index = omega (arith, n.index, a) }

  stands : (u v : Bool) (rest : List Slot) → same_bytes b (body_in (slot_at bytes i)) ≡ v → (u && v) ≡ true
      → (in_slots b (pick u (holds (body_in (slot_at bytes i))) empty ∷ rest) ≡ true) × (slot_of b (pick u (holds (body_in (slot_at bytes i))) empty ∷ rest) ≡ 0)
  unfolding in_slots slot_of pick
  stands true true rest e f = (rw e refl, rw e refl)
  stands true false rest e f = absurd (let z : ◌≡◌ {A = ℕ} 0 1 = cc in omega arith)
  stands false v rest e f = absurd (let z : ◌≡◌ {A = ℕ} 0 1 = cc in omega arith)

  pub sought_here : i < 8 → (named i && same_bytes b (body_in (slot_at bytes i))) ≡ true → Holding (record { 0 = i }) ≡ slot_choice b (slots_from named bytes 8 0)
  unfolding slot_choice pick
  sought_here h e =
      let p = stands (named i) (same_bytes b (body_in (slot_at bytes i))) (slots_from named bytes (8 - (i + 1)) (i + 1)) refl e in
      let f : in_slots b (slots_from named bytes 8 0) ≡ true = n.found ∙ (ap (in_slots b) (next_slot named bytes 8 i h) ∙ p.0) in
      let a : slot_of b (slots_from named bytes (8 - i) i) ≡ 0 = ap (slot_of b) (next_slot named bytes 8 i h) ∙ p.1 in
      let c : slot_of b (slots_from named bytes 8 0) ≡ i = omega (arith, n.index, a) in
      rw (f, c) refl

  pub sought_none : 8 ≤ i → free_choice (slots_from named bytes 8 0) ≡ slot_choice b (slots_from named bytes 8 0)
  unfolding in_slots slot_choice pick
  sought_none h =
      let a : in_slots b (slots_from named bytes (8 - i) i) ≡ false = rw (no_slot named bytes 8 i h) refl in
      rw (n.found ∙ a) refl

-- ---- slots cleared one after the other

pub cleared_next : (was is : ℕ → Bool) (i : ℕ) (store : List ℕ) → i < 8
    → cleared_from was is (8 - i) i store ≡ cleared_from was is (8 - (i + 1)) (i + 1) (pick (was i && not (is i)) (slot_set store i empty) store)
unfolding cleared_from
cleared_next was is i store h =
    let e : 8 - i ≡ suc (8 - (i + 1)) = omega arith in
    let f : i + 1 ≡ suc i = omega arith in
    rw (e, f) refl

pub cleared_all : (was is : ℕ → Bool) (i : ℕ) (store : List ℕ) → 8 ≤ i → cleared_from was is (8 - i) i store ≡ store
unfolding cleared_from
cleared_all was is i store h = let e : 8 - i ≡ 0 = omega arith in rw e refl

-- ---- one slot: cleared where it has lost its last name

module _ {A : Type 0} (named still : Bool) (l m : A) where
  pub kept_unnamed : named ≡ false → m ≡ pick (named && not still) l m
  unfolding pick
  kept_unnamed e = rw e refl

  pub kept_named : still ≡ true → m ≡ pick (named && not still) l m
  unfolding pick
  kept_named e = rw e (go named)
    where
      go : (named : Bool) → m ≡ pick (named && false) l m
      go true = refl
      go false = refl

  pub cleared_one : named ≡ true → still ≡ false → l ≡ pick (named && not still) l m
  unfolding pick
  cleared_one e f = rw (e, f) refl
