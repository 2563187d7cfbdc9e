-- Laws of the slots: which slot holds a body, and that placing a body and emptying a slot leave the others where they are.
use Prim.Native.Nat.{ℕ, zero, suc, ◌+◌, ◌-◌, ◌≤◌, ◌<◌}
use mathlib.Core.Path.{◌≡◌, refl, sym, ap, ◌∙◌}
use mathlib.Core.Logic.{◌⊎◌, inl, inr, ⊎_elim}
use mathlib.Core.Bool.{Bool, true, false, not, ◌&&◌, ◌||◌, false≢true, or-true}
use mathlib.Core.List.{List, [], ◌∷◌, map}
use native.Mathlib.Numerals.{add-one}
use native.Mathlib.Omega.{arith}
use borrow.Author.Tests.{not-true}
use lib.ListN.{length, get_or}
use Rattle.base.specs.Answer.{pick}
use Rattle.base.proofs.AnswerLaws.{both}
use Rattle.octets.specs.Numbers.{same_bytes}
use Rattle.octets.proofs.SameLaws.{same_not, same_other, same_refl, same_true}
use Rattle.segments.specs.Segments.{Mode}
use Rattle.store.specs.Store.{Body, Slot, empty, holds, body_in, slot_at}
use Rattle.model.specs.Model.{ByteRight, Action, grants, returns, recalls, revokes, any_byte, if_named, in_lowest, in_slots, is_under, none_empty, placed, slot_of, stops24}
use Rattle.model.specs.SlotsShown.{all_distinct, slots_from}

-- ---- the slots of a store, one after the other

module _ (named : ℕ → Bool) (store : List ℕ) (n i : ℕ) where
  pub next_slot : i < n
      → slots_from named store (n - i) i ≡ pick (named i) (holds (body_in (slot_at store i))) empty ∷ slots_from named store (n - (i + 1)) (i + 1)
  unfolding slots_from
  next_slot h =
      let e : n - i ≡ suc (n - (i + 1)) = omega arith in
      rw (e, add-one i)

  pub no_slot : n ≤ i → slots_from named store (n - i) i ≡ []
  unfolding slots_from
  no_slot h = let e : n - i ≡ 0 = omega arith in rw e

-- ---- bodies and slots that are alike

pub empty_holds : (b : Body) → empty ≡ holds b → ⊥
empty_holds b e = let z : ◌≡◌ {A = ℕ} 0 1 = cc in omega arith

pub held_body : (b c : Body) → holds b ≡ holds c → b ≡ c
held_body b c e = cc

-- ---- the slot of a body

pub in_found : (b : Body) (ss : List Slot) → in_slots b ss ≡ true → get_or ss (slot_of b ss) empty ≡ holds b
unfolding in_slots slot_of pick
in_found b [] h = absurd (false≢true h)
in_found b (empty ∷ ss) h = in_found b ss h
in_found b (holds c ∷ ss) h = go (same_bytes b c) refl h (in_found b ss)
  where
    go : (t : Bool) → same_bytes b c ≡ t → (t || in_slots b ss) ≡ true → (in_slots b ss ≡ true → get_or ss (slot_of b ss) empty ≡ holds b)
        → get_or (holds c ∷ ss) (pick t 0 (suc (slot_of b ss))) empty ≡ holds b
    go true e k rest = ap holds (sym (same_true b c e))
    go false e k rest = rest k

pub in_small : (b : Body) (ss : List Slot) → in_slots b ss ≡ true → slot_of b ss < length ss
unfolding in_slots slot_of pick
in_small b [] h = absurd (false≢true h)
in_small b (empty ∷ ss) h = let k = in_small b ss h in omega arith
in_small b (holds c ∷ ss) h = go (same_bytes b c) h (in_small b ss)
  where
    go : (t : Bool) → (t || in_slots b ss) ≡ true → (in_slots b ss ≡ true → slot_of b ss < length ss)
        → pick t 0 (suc (slot_of b ss)) < suc (length ss)
    go true k rest = omega arith
    go false k rest = let r = rest k in omega arith

pub held_in : (b : Body) (ss : List Slot) (i : ℕ) → get_or ss i empty ≡ holds b → in_slots b ss ≡ true
unfolding in_slots
held_in b [] i h = absurd (empty_holds b h)
held_in b (empty ∷ ss) zero h = absurd (empty_holds b h)
held_in b (empty ∷ ss) (suc i) h = held_in b ss i h
held_in b (holds c ∷ ss) zero h = let e : c ≡ b = held_body c b h in rw (e, same_refl b)
held_in b (holds c ∷ ss) (suc i) h = rw (held_in b ss i h) (or-true (same_bytes b c))

pub held_slot : (b : Body) (ss : List Slot) (i : ℕ) → all_distinct ss ≡ true → get_or ss i empty ≡ holds b → slot_of b ss ≡ i
unfolding all_distinct slot_of pick
held_slot b [] i a h = absurd (empty_holds b h)
held_slot b (empty ∷ ss) zero a h = absurd (empty_holds b h)
held_slot b (empty ∷ ss) (suc i) a h = ap suc (held_slot b ss i a h)
held_slot b (holds c ∷ ss) zero a h = let e : c ≡ b = held_body c b h in rw (e, same_refl b)
held_slot b (holds c ∷ ss) (suc i) a h =
    let p = both (not (in_slots c ss)) (all_distinct ss) a in
    let n : same_bytes b c ≡ false = same_other b c λ e. false≢true (sym (not-true (in_slots c ss) p.0) ∙ (ap (λ (x : Body). in_slots x ss) (sym e) ∙ held_in b ss i h)) in
    rw n (ap suc (held_slot b ss i p.1 h))

pub same_number : (b c : Body) (ss : List Slot) → in_slots b ss ≡ true → in_slots c ss ≡ true → slot_of b ss ≡ slot_of c ss → b ≡ c
same_number b c ss h k e = held_body b c (sym (in_found b ss h) ∙ (ap (λ (i : ℕ). get_or ss i empty) e ∙ in_found c ss k))

-- ---- a body placed in the lowest empty slot

lowest_length : (b : Body) (ss : List Slot) → length (in_lowest b ss) ≡ length ss
unfolding in_lowest
lowest_length b [] = refl
lowest_length b (empty ∷ ss) = refl
lowest_length b (holds c ∷ ss) = ap suc (lowest_length b ss)

lowest_in : (b : Body) (ss : List Slot) → none_empty ss ≡ false → in_slots b (in_lowest b ss) ≡ true
unfolding in_lowest in_slots none_empty
lowest_in b [] h = absurd (false≢true (sym h))
lowest_in b (empty ∷ ss) h = rw (same_refl b)
lowest_in b (holds c ∷ ss) h = rw (lowest_in b ss h) (or-true (same_bytes b c))

lowest_others : (b c : Body) (ss : List Slot) → (c ≡ b → ⊥) → in_slots c (in_lowest b ss) ≡ in_slots c ss
unfolding in_lowest in_slots
lowest_others b c [] n = refl
lowest_others b c (empty ∷ ss) n = rw (same_other c b n)
lowest_others b c (holds d ∷ ss) n = rw (lowest_others b c ss n)

lowest_slot : (b c : Body) (ss : List Slot) → (c ≡ b → ⊥) → slot_of c (in_lowest b ss) ≡ slot_of c ss
unfolding in_lowest slot_of pick
lowest_slot b c [] n = refl
lowest_slot b c (empty ∷ ss) n = rw (same_other c b n)
lowest_slot b c (holds d ∷ ss) n = rw (lowest_slot b c ss n)

lowest_held : (b c : Body) (ss : List Slot) (i : ℕ) → get_or (in_lowest b ss) i empty ≡ holds c → (get_or ss i empty ≡ holds c) ⊎ (b ≡ c)
unfolding in_lowest
lowest_held b c [] i h = inl h
lowest_held b c (empty ∷ ss) zero h = inr (held_body b c h)
lowest_held b c (empty ∷ ss) (suc i) h = inl h
lowest_held b c (holds d ∷ ss) zero h = inl h
lowest_held b c (holds d ∷ ss) (suc i) h = lowest_held b c ss i h

absent_tail : (b c : Body) (ss : List Slot) → in_slots b (holds c ∷ ss) ≡ false → (c ≡ b → ⊥) × (in_slots b ss ≡ false)
unfolding in_slots
absent_tail b c ss h = go (same_bytes b c) refl h
  where
    go : (t : Bool) → same_bytes b c ≡ t → (t || in_slots b ss) ≡ false → (c ≡ b → ⊥) × (in_slots b ss ≡ false)
    go true e k = absurd (false≢true (sym k))
    go false e k = (λ p. same_not b c e (sym p), k)

lowest_apart : (b : Body) (ss : List Slot) → in_slots b ss ≡ false → all_distinct ss ≡ true → all_distinct (in_lowest b ss) ≡ true
unfolding in_lowest all_distinct in_slots
lowest_apart b [] h a = refl
lowest_apart b (empty ∷ ss) h a = rw h a
lowest_apart b (holds c ∷ ss) h a =
    let p = both (not (in_slots c ss)) (all_distinct ss) a in
    let t = absent_tail b c ss h in
    rw (lowest_others b c ss t.0, p.0) (lowest_apart b ss t.1 p.1)

-- ---- the slots after a command's body is placed

pub placed_length : (d : Action) (ss : List Slot) → length (placed d ss) ≡ length ss
unfolding pick
placed_length (grants b) ss = go (in_slots b ss)
  where
    go : (t : Bool) → length (pick t ss (in_lowest b ss)) ≡ length ss
    go true = refl
    go false = lowest_length b ss
placed_length returns ss = refl
placed_length recalls ss = refl
placed_length revokes ss = refl

pub placed_distinct : (d : Action) (ss : List Slot) → all_distinct ss ≡ true → all_distinct (placed d ss) ≡ true
unfolding pick
placed_distinct (grants b) ss a = go (in_slots b ss) refl
  where
    go : (t : Bool) → in_slots b ss ≡ t → all_distinct (pick t ss (in_lowest b ss)) ≡ true
    go true e = a
    go false e = lowest_apart b ss e a
placed_distinct returns ss a = a
placed_distinct recalls ss a = a
placed_distinct revokes ss a = a

-- a body in a slot stays in it
pub placed_in : (d : Action) (c : Body) (ss : List Slot) → in_slots c ss ≡ true → in_slots c (placed d ss) ≡ true
unfolding pick
placed_in (grants b) c ss h = go (in_slots b ss) refl
  where
    go : (t : Bool) → in_slots b ss ≡ t → in_slots c (pick t ss (in_lowest b ss)) ≡ true
    go true e = h
    go false e = lowest_others b c ss (λ p. false≢true (sym e ∙ (ap (λ (x : Body). in_slots x ss) (sym p) ∙ h))) ∙ h
placed_in returns c ss h = h
placed_in recalls c ss h = h
placed_in revokes c ss h = h

pub placed_slot : (d : Action) (c : Body) (ss : List Slot) → in_slots c ss ≡ true → slot_of c (placed d ss) ≡ slot_of c ss
unfolding pick
placed_slot (grants b) c ss h = go (in_slots b ss) refl
  where
    go : (t : Bool) → in_slots b ss ≡ t → slot_of c (pick t ss (in_lowest b ss)) ≡ slot_of c ss
    go true e = refl
    go false e = lowest_slot b c ss (λ p. false≢true (sym e ∙ (ap (λ (x : Body). in_slots x ss) (sym p) ∙ h)))
placed_slot returns c ss h = refl
placed_slot recalls c ss h = refl
placed_slot revokes c ss h = refl

-- a granted body is in a slot, where there was room
pub granted_in_lem : (b : Body) (ss : List Slot) → stops24 (grants b) ss ≡ false → in_slots b (placed (grants b) ss) ≡ true
unfolding pick
granted_in_lem b ss h = go (in_slots b ss) refl h
  where
    go : (t : Bool) → in_slots b ss ≡ t → (not t && none_empty ss) ≡ false → in_slots b (pick t ss (in_lowest b ss)) ≡ true
    go true e k = e
    go false e k = lowest_in b ss k

-- a body in a slot was in it, or is the granted one
pub placed_held : (d : Action) (c : Body) (ss : List Slot) (i : ℕ) → get_or (placed d ss) i empty ≡ holds c
    → (get_or ss i empty ≡ holds c) ⊎ (d ≡ grants c)
unfolding pick
placed_held (grants b) c ss i h = go (in_slots b ss) h
  where
    go : (t : Bool) → get_or (pick t ss (in_lowest b ss)) i empty ≡ holds c → (get_or ss i empty ≡ holds c) ⊎ (grants b ≡ grants c)
    go true k = inl k
    go false k = ⊎_elim (λ p. inl p) (λ p. inr (ap grants p)) (lowest_held b c ss i k)
placed_held returns c ss i h = inl h
placed_held recalls c ss i h = inl h
placed_held revokes c ss i h = inl h

-- ---- the slots after those whose body no right names are emptied

module _ (N : ℕ) (right : Mode → ℕ → ByteRight) where
  if_named_held : (s : Slot) (b : Body) → if_named N right s ≡ holds b → (s ≡ holds b) × (any_byte N (λ m x. is_under b (right m x)) ≡ true)
  unfolding if_named pick
  if_named_held empty b h = absurd (empty_holds b h)
  if_named_held (holds c) b h = go (any_byte N (λ m x. is_under c (right m x))) refl h
    where
      go : (t : Bool) → any_byte N (λ m x. is_under c (right m x)) ≡ t → pick t (holds c) empty ≡ holds b
          → (holds c ≡ holds b) × (any_byte N (λ m x. is_under b (right m x)) ≡ true)
      go true e k = let p : c ≡ b = held_body c b k in (k, rw p at e)
      go false e k = absurd (empty_holds b k)

  pub emptied_held : (b : Body) (ss : List Slot) (i : ℕ) → get_or (map (if_named N right) ss) i empty ≡ holds b
      → (get_or ss i empty ≡ holds b) × (any_byte N (λ m x. is_under b (right m x)) ≡ true)
  emptied_held b [] i h = absurd (empty_holds b h)
  emptied_held b (s ∷ ss) zero h = if_named_held s b h
  emptied_held b (s ∷ ss) (suc i) h = emptied_held b ss i h

  emptied_in : (b : Body) (ss : List Slot) → in_slots b ss ≡ false → in_slots b (map (if_named N right) ss) ≡ false
  unfolding in_slots if_named pick
  emptied_in b [] h = refl
  emptied_in b (empty ∷ ss) h = emptied_in b ss h
  emptied_in b (holds c ∷ ss) h =
      let t = absent_tail b c ss h in
      go (any_byte N (λ m x. is_under c (right m x))) (same_other b c (λ e. t.0 (sym e))) (emptied_in b ss t.1)
    where
      go : (t : Bool) → same_bytes b c ≡ false → in_slots b (map (if_named N right) ss) ≡ false
          → in_slots b (pick t (holds c) empty ∷ map (if_named N right) ss) ≡ false
      go true n k = rw n k
      go false n k = k

  pub emptied_distinct : (ss : List Slot) → all_distinct ss ≡ true → all_distinct (map (if_named N right) ss) ≡ true
  unfolding all_distinct if_named pick
  emptied_distinct [] a = refl
  emptied_distinct (empty ∷ ss) a = emptied_distinct ss a
  emptied_distinct (holds c ∷ ss) a =
      let p = both (not (in_slots c ss)) (all_distinct ss) a in
      go (any_byte N (λ m x. is_under c (right m x))) (emptied_in c ss (not-true (in_slots c ss) p.0)) (emptied_distinct ss p.1)
    where
      go : (t : Bool) → in_slots c (map (if_named N right) ss) ≡ false → all_distinct (map (if_named N right) ss) ≡ true
          → all_distinct (pick t (holds c) empty ∷ map (if_named N right) ss) ≡ true
      go true n k = rw n k
      go false n k = k

  -- a body that a right names stays in its slot
  pub named_slot : (b : Body) (ss : List Slot) → any_byte N (λ m x. is_under b (right m x)) ≡ true
      → slot_of b (map (if_named N right) ss) ≡ slot_of b ss
  unfolding slot_of if_named pick
  named_slot b [] h = refl
  named_slot b (empty ∷ ss) h = ap suc (named_slot b ss h)
  named_slot b (holds c ∷ ss) h = go (same_bytes b c) (any_byte N (λ m x. is_under c (right m x))) refl refl (named_slot b ss h)
    where
      go : (t u : Bool) → same_bytes b c ≡ t → any_byte N (λ m x. is_under c (right m x)) ≡ u → slot_of b (map (if_named N right) ss) ≡ slot_of b ss
          → slot_of b (pick u (holds c) empty ∷ map (if_named N right) ss) ≡ pick t 0 (suc (slot_of b ss))
      go true true e k rest = rw e
      go true false e k rest = let p : b ≡ c = same_true b c e in absurd (false≢true (sym k ∙ rw p at h))
      go false true e k rest = rw e (ap suc rest)
      go false false e k rest = ap suc rest

  pub named_in : (b : Body) (ss : List Slot) → any_byte N (λ m x. is_under b (right m x)) ≡ true → in_slots b ss ≡ true
      → in_slots b (map (if_named N right) ss) ≡ true
  unfolding in_slots if_named pick
  named_in b [] h i = i
  named_in b (empty ∷ ss) h i = named_in b ss h i
  named_in b (holds c ∷ ss) h i = go (same_bytes b c) (any_byte N (λ m x. is_under c (right m x))) refl refl i (named_in b ss h)
    where
      go : (t u : Bool) → same_bytes b c ≡ t → any_byte N (λ m x. is_under c (right m x)) ≡ u → (t || in_slots b ss) ≡ true
          → (in_slots b ss ≡ true → in_slots b (map (if_named N right) ss) ≡ true)
          → in_slots b (pick u (holds c) empty ∷ map (if_named N right) ss) ≡ true
      go true true e k j rest = rw e
      go true false e k j rest = let p : b ≡ c = same_true b c e in absurd (false≢true (sym k ∙ rw p at h))
      go false true e k j rest = rw e (rest j)
      go false false e k j rest = rest j
