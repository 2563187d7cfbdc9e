-- Laws of several items of one kind, one after the other: the first of them apart, and what holds of all that were read.
use Prim.Native.Nat.{ℕ, zero, suc, ◌+◌, ◌-◌, ◌*◌, ◌≤◌, ◌<◌}
use mathlib.Core.Path.{◌≡◌, refl, sym, ap, ◌∙◌}
use mathlib.Core.List.{List, [], ◌∷◌}
use native.Mathlib.Nat.{suc-mul}
use native.Mathlib.Omega.{arith}
use lib.ListN.{length, get_or}
use Rattle.base.specs.Lists.{Each}
use Rattle.base.proofs.ListLaws.{each_at}
use Rattle.xdr.specs.Parsed.{Parsed, ok, fault, then, many_at}
use Rattle.xdr.proofs.Accepted.{then_inv, same_offset, same_value}

-- ---- the first item apart, whatever the items are read for

then_then : {A B C : Type 0} (x : Parsed A) (f : A → ℕ → Parsed B) (g : B → ℕ → Parsed C) → then (then x f) g ≡ then x (λ a p. then (f a p) g)
unfolding then
then_then (ok a p) f g = refl
then_then (fault n) f g = refl

module _ {A C : Type 0} (item : List ℕ → ℕ → Parsed A) (n : ℕ) (s : List ℕ) (at : ℕ) (f : List A → ℕ → Parsed C) where
  pub none_then : n ≡ 0 → then (many_at item n s at) f ≡ f [] at
  unfolding many_at then
  none_then h = rw h

  pub refused_then : (k : ℕ) → 0 < n → item s at ≡ fault k → then (many_at item n s at) f ≡ fault k
  unfolding many_at then
  refused_then k h e = let g : n ≡ suc (n - 1) = omega arith in rw (g, e)

  pub first_then : (a : A) (p : ℕ) → 0 < n → item s at ≡ ok a p → then (many_at item n s at) f ≡ then (many_at item (n - 1) s p) (λ l q. f (a ∷ l) q)
  unfolding many_at then
  first_then a p h e = go n h where
    go : (m : ℕ) → 0 < m → then (many_at item m s at) f ≡ then (many_at item (m - 1) s p) (λ l q. f (a ∷ l) q)
    go zero h = absurd (omega arith)
    go (suc m) h = let g : suc m - 1 ≡ m = omega arith in rw (e, g) (then_then (many_at item m s p) (λ l q. ok (a ∷ l) q) f)

pub many_none : {A : Type 0} (item : List ℕ → ℕ → Parsed A) (n : ℕ) (s : List ℕ) (at : ℕ) → n ≡ 0 → many_at item n s at ≡ ok [] at
unfolding many_at
many_none item n s at h = rw h

-- ---- items that were read

module _ {A : Type 0} (item : List ℕ → ℕ → Parsed A) where
  -- the first item, and those after it
  pub record First (n : ℕ) (s : List ℕ) (at : ℕ) (l : List A) (p : ℕ) : Type 0 where
    pub head : A
    pub next : ℕ
    pub others : List A
    pub first : item s at ≡ ok head next
    pub rest : many_at item n s next ≡ ok others p
    pub all : head ∷ others ≡ l

  pub first_read : (n : ℕ) (s : List ℕ) (at : ℕ) (l : List A) (p : ℕ) → many_at item (suc n) s at ≡ ok l p → First n s at l p
  unfolding many_at
  first_read n s at l p e =
      let r = then_inv _ _ l p e in
      let t = then_inv _ _ l p r.rest in
      record {
        head = r.item;
        next = r.next;
        others = t.item;
        first = r.first;
        rest = t.first ∙ ap (ok t.item) (same_offset t.rest);
        all = same_value t.rest;
      }

  pub many_length : (n : ℕ) (s : List ℕ) (at : ℕ) (l : List A) (p : ℕ) → many_at item n s at ≡ ok l p → length l ≡ n
  unfolding many_at
  many_length zero s at l p e = ap length (sym (same_value e))
  many_length (suc n) s at l p e =
      let r = first_read n s at l p e in
      ap length (sym r.all) ∙ ap suc (many_length n s r.next r.others p r.rest)

  -- items that each take at least k bytes, or exactly k
  pub many_least : (k : ℕ) (s : List ℕ) → ((at : ℕ) (a : A) (p : ℕ) → item s at ≡ ok a p → at + k ≤ p)
      → (n at : ℕ) (l : List A) (p : ℕ) → many_at item n s at ≡ ok l p → at + n * k ≤ p
  unfolding many_at
  many_least k s h zero at l p e = let f : at ≡ p = same_offset e in omega (arith, f)
  many_least k s h (suc n) at l p e =
      let r = first_read n s at l p e in
      let a = h at r.head r.next r.first in
      let b = many_least k s h n r.next r.others p r.rest in
      omega (arith, a, b, suc-mul n k)

  pub many_exact : (k : ℕ) (s : List ℕ) → ((at : ℕ) (a : A) (p : ℕ) → item s at ≡ ok a p → p ≡ at + k)
      → (n at : ℕ) (l : List A) (p : ℕ) → many_at item n s at ≡ ok l p → p ≡ at + n * k
  unfolding many_at
  many_exact k s h zero at l p e = let f : at ≡ p = same_offset e in omega (arith, f)
  many_exact k s h (suc n) at l p e =
      let r = first_read n s at l p e in
      let a = h at r.head r.next r.first in
      let b = many_exact k s h n r.next r.others p r.rest in
      omega (arith, a, b, suc-mul n k)

  -- what each item has that is read at some place, all of them have
  module _ (s : List ℕ) (P : A → Type 0) (h : (at : ℕ) (a : A) (p : ℕ) → item s at ≡ ok a p → P a) where
    pub many_each : (n at : ℕ) (l : List A) (p : ℕ) → many_at item n s at ≡ ok l p → Each P l
    unfolding many_at
    many_each zero at l p e = rw (← same_value e) tt
    many_each (suc n) at l p e =
        let r = first_read n s at l p e in
        rw (← r.all) (h at r.head r.next r.first, many_each n r.next r.others p r.rest)

    pub many_all : (n at : ℕ) (l : List A) (p : ℕ) → many_at item n s at ≡ ok l p → (i : ℕ) (d : A) → i < n → P (get_or l i d)
    many_all n at l p e i d k = each_at P l i d (many_each n at l p e) (omega (arith, many_length n s at l p e))
