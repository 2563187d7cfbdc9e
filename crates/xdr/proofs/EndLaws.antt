-- Laws of the offset after an item, and after several of one kind.
use Prim.Native.Nat.{ℕ, ◌-◌, ◌<◌}
use mathlib.Core.Path.{◌≡◌, refl}
use mathlib.Core.List.{List}
use native.Mathlib.Omega.{arith}
use Rattle.xdr.specs.Parsed.{Parsed, ok, fault, then, many_at, end_of}
use Rattle.xdr.proofs.ManyLaws.{first_then, none_then, refused_then}

-- what follows goes by the offset alone
pub end_goes_on : {A B : Type 0} (x : Parsed A) (f : ℕ → Parsed B) → then (end_of x) (λ u q. f q) ≡ then x (λ a q. f q)
unfolding end_of then
end_goes_on (ok a q) f = refl
end_goes_on (fault n) f = refl

-- what was read, by where it ends
pub end_was_refused : {A : Type 0} (x : Parsed A) (n : ℕ) → end_of x ≡ fault n → x ≡ fault n
unfolding end_of then
end_was_refused (ok a q) n e = let z : ◌≡◌ {A = ℕ} 0 1 = cc in absurd (omega arith)
end_was_refused (fault m) n e = let h : m ≡ n = cc in rw h

pub end_was_read : {A : Type 0} (x : Parsed A) (p : ℕ) → end_of x ≡ ok tt p → (a : A) × (x ≡ ok a p)
unfolding end_of then
end_was_read (ok a q) p e = let h : q ≡ p = cc in (a, rw h)
end_was_read (fault n) p e = let z : ◌≡◌ {A = ℕ} 0 1 = cc in absurd (omega arith)

-- ---- several items, the first of them apart

module _ {A : Type 0} (item : List ℕ → ℕ → Parsed A) (n : ℕ) (s : List ℕ) (at : ℕ) where
  pub none_end : n ≡ 0 → end_of (many_at item n s at) ≡ ok tt at
  unfolding end_of
  none_end h = none_then item n s at _ h

  pub first_refuses : (k : ℕ) → 0 < n → item s at ≡ fault k → end_of (many_at item n s at) ≡ fault k
  unfolding end_of
  first_refuses k h e = refused_then item n s at _ k h e

  pub others_end : (v : A) (p : ℕ) → 0 < n → item s at ≡ ok v p → end_of (many_at item n s at) ≡ end_of (many_at item (n - 1) s p)
  unfolding end_of
  others_end v p h e = first_then item n s at _ v p h e
