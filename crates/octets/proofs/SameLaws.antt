-- Laws of equal runs of bytes: the test says that two lists are equal, and goes by lengths, then block by block.
use Prim.Native.Nat.{ℕ, ◌+◌, ◌*◌, ◌/◌, ◌<◌}
use Rattle.std.specs.Simd.{first_chunks}
use mathlib.Core.Path.{◌≡◌, refl, sym, ap, ap₂, ◌∙◌}
use mathlib.Core.Bool.{Bool, true, false, ◌&&◌, and_assoc, and-true, false≢true}
use mathlib.Core.List.{List, [], ◌∷◌, ◌++◌}
use borrow.Author.Tests.{eqb-true, eq-eqb}
use lib.Seq.{take-suc}
use native.Mathlib.Numerals.{add-one}
use Rattle.octets.proofs.ZeroLaws.{block_at, length_chunks}
use lib.Dec.{eqb}
use lib.ListN.{length, take, drop, get_or, length-drop, length-take}
use native.Mathlib.Nat.{add-mul}
use native.Mathlib.Omega.{arith}
use Rattle.octets.specs.Numbers.{bytes_from, same_bytes}
use Rattle.octets.proofs.NumberLaws.{run_first}

pub same_true : (xs ys : List ℕ) → same_bytes xs ys ≡ true → xs ≡ ys
unfolding same_bytes
same_true [] [] h = refl
same_true [] (y ∷ ys) h = absurd (false≢true h)
same_true (x ∷ xs) [] h = absurd (false≢true h)
same_true (x ∷ xs) (y ∷ ys) h = go (eqb x y) refl h (same_true xs ys) where
  go : (t : Bool) → eqb x y ≡ t → (t && same_bytes xs ys) ≡ true → (same_bytes xs ys ≡ true → xs ≡ ys) → x ∷ xs ≡ y ∷ ys
  go true e k rest = let p : x ≡ y = eqb-true x y e in let q : xs ≡ ys = rest k in rw (p, q)
  go false e k rest = absurd (false≢true k)

pub same_lengths : (xs ys : List ℕ) → (length xs ≡ length ys → ⊥) → same_bytes xs ys ≡ false
same_lengths xs ys h = go (same_bytes xs ys) refl where
  go : (t : Bool) → same_bytes xs ys ≡ t → same_bytes xs ys ≡ false
  go true e = absurd (h (ap length (same_true xs ys e)))
  go false e = e

same_append : (xs ys xs2 ys2 : List ℕ) → length xs ≡ length ys → same_bytes (xs ++ xs2) (ys ++ ys2) ≡ (same_bytes xs ys && same_bytes xs2 ys2)
unfolding same_bytes
same_append [] [] xs2 ys2 h = refl
same_append [] (y ∷ ys) xs2 ys2 h = absurd (omega (arith, h))
same_append (x ∷ xs) [] xs2 ys2 h = absurd (omega (arith, h))
same_append (x ∷ xs) (y ∷ ys) xs2 ys2 h = rw (same_append xs ys xs2 ys2 (omega (arith, h)), and_assoc (eqb x y) (same_bytes xs ys) (same_bytes xs2 ys2))

same_one : (x y : ℕ) → same_bytes (x ∷ []) (y ∷ []) ≡ eqb x y
unfolding same_bytes
same_one x y = and-true (eqb x y)

same_long : (n at : ℕ) (s t : List ℕ) → length s ≡ length t → length (bytes_from n s at) ≡ length (bytes_from n t at)
same_long n at s t h = simp (length-take, length-drop, h) refl

pub same_none : same_bytes [] [] ≡ true
unfolding same_bytes
same_none = refl

pub one_more : (s t : List ℕ) (i : ℕ) → i < length s → i < length t
    → same_bytes (take (i + 1) s) (take (i + 1) t) ≡ (same_bytes (take i s) (take i t) && eqb (get_or s i 0) (get_or t i 0))
one_more s t i h k =
    let e : length (take i s) ≡ length (take i t) = simp length-take (omega arith) in
    rw (add-one i, take-suc s i 0 h, take-suc t i 0 k, same_append (take i s) (take i t) _ _ e, same_one)

-- what a loop over two runs needs
pub ruleset run_passed = (same_none, one_more)

-- a block, and what is after it
pub block_first : (block size : ℕ) (s t : List ℕ) → length s ≡ length t
    → same_bytes (drop (block * size) s) (drop (block * size) t)
    ≡ (same_bytes (bytes_from size s (block * size)) (bytes_from size t (block * size)) && same_bytes (drop ((block + 1) * size) s) (drop ((block + 1) * size) t))
block_first block size s t h =
    let at = block * size in
    let e : (block + 1) * size ≡ at + size = omega (arith, add-mul block 1 size) in
    rw e
    (ap₂ same_bytes (run_first size s at) (run_first size t at)
    ∙ same_append (bytes_from size s at) (bytes_from size t at) (drop (at + size) s) (drop (at + size) t) (same_long size at s t h))

-- the blocks of two lists in pairs
module _ (size : ℕ) (s t : List ℕ) (i : ℕ) (b c : List ℕ) where
  abbrev blocks : List ℕ → List (List ℕ)
  blocks l = first_chunks size (length l / size) l

  pub pair_first : length s ≡ length t
      → (i < length (blocks s)) × (i < length (blocks t)) × ((d : List ℕ) → b ≡ get_or (blocks s) i d) × ((d : List ℕ) → c ≡ get_or (blocks t) i d)
      → same_bytes (drop (i * size) s) (drop (i * size) t) ≡ (same_bytes b c && same_bytes (drop ((i + 1) * size) s) (drop ((i + 1) * size) t))
  pair_first e w =
      let h : i < length s / size = omega (arith, w.0, length_chunks size (length s / size) s) in
      let k : i < length t / size = omega (arith, w.1, length_chunks size (length t / size) t) in
      rw (w.2 [], w.3 [], block_at size (length s / size) i s h, block_at size (length t / size) i t k) (block_first i size s t e)

pub same_refl : (b : List ℕ) → same_bytes b b ≡ true
unfolding same_bytes
same_refl [] = refl
same_refl (x ∷ b) = rw (eq-eqb x x refl) (same_refl b)

pub same_not : (b c : List ℕ) → same_bytes b c ≡ false → b ≡ c → ⊥
same_not b c e p = false≢true (sym e ∙ (ap (λ (x : List ℕ). same_bytes b x) (sym p) ∙ same_refl b))

pub same_other : (b c : List ℕ) → (b ≡ c → ⊥) → same_bytes b c ≡ false
same_other b c n = go (same_bytes b c) refl
  where
    go : (t : Bool) → same_bytes b c ≡ t → same_bytes b c ≡ false
    go true e = absurd (n (same_true b c e))
    go false e = e
