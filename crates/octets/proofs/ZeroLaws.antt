-- Laws of bytes that are all zero: two parts, one more byte, a block and what is after it, what they are.
use Prim.Native.Nat.{ℕ, zero, suc, ◌+◌, ◌*◌, ◌≤◌, ◌<◌}
use mathlib.Core.Path.{◌≡◌, refl, ap, ap₂, ◌∙◌}
use mathlib.Core.Bool.{true, ◌&&◌, and_assoc, and-true}
use mathlib.Core.List.{List, [], ◌∷◌, ◌++◌}
use borrow.Author.Tests.{eqb-true, ne_eqb}
use Rattle.std.proofs.lemmas.Nat.{le_or_l}
use Rattle.std.specs.Int.Bits.{bit_or}
use Rattle.std.specs.Simd.{first_chunks}
use lib.Seq.{drop-drop, take-suc}
use native.Mathlib.Numerals.{add-one}
use lib.Dec.{eqb}
use lib.ListN.{length, take, drop, drop_of_length-le, get_or, replicate}
use native.Mathlib.Nat.{add-mul}
use native.Mathlib.Omega.{arith}
use Rattle.base.proofs.AnswerLaws.{both}
use Rattle.octets.specs.Numbers.{all_zero, bytes_from}
use Rattle.octets.proofs.NumberLaws.{run_first}

pub zero_append : (xs ys : List ℕ) → all_zero (xs ++ ys) ≡ (all_zero xs && all_zero ys)
unfolding all_zero
zero_append [] ys = refl
zero_append (x ∷ xs) ys = rw (zero_append xs ys, and_assoc (eqb x 0) (all_zero xs) (all_zero ys))

pub zero_none : all_zero [] ≡ true
unfolding all_zero
zero_none = refl

zero_one : (x : ℕ) → all_zero (x ∷ []) ≡ eqb x 0
unfolding all_zero
zero_one x = and-true (eqb x 0)

pub one_more : (s : List ℕ) (i : ℕ) → i < length s → all_zero (take (i + 1) s) ≡ (all_zero (take i s) && eqb (get_or s i 0) 0)
one_more s i h = rw (add-one i, take-suc s i 0 h, zero_append (take i s) _, zero_one)

-- the bits of two numbers together
pub or_zero : (a b : ℕ) → eqb (bit_or a b) 0 ≡ (eqb a 0 && eqb b 0)
or_zero zero zero = refl
or_zero zero (suc b) = rw (ne_eqb (suc b) 0 (λ e. omega arith))
or_zero (suc a) b =
    let n : bit_or (suc a) b ≡ 0 → ⊥ = λ e. omega (arith, le_or_l (suc a) b) in
    rw (ne_eqb (suc a) 0 (λ e. omega arith), ne_eqb (bit_or (suc a) b) 0 n)

-- what a loop over a run needs
pub ruleset run_passed = (zero_none, one_more, or_zero)

-- one of the blocks
pub length_chunks : (size n : ℕ) (s : List ℕ) → length (first_chunks size n s) ≡ n
length_chunks size zero s = refl
length_chunks size (suc n) s = ap suc (length_chunks size n (drop size s))

pub block_at : (size n block : ℕ) (s : List ℕ) → block < n → get_or (first_chunks size n s) block [] ≡ bytes_from size s (block * size)
block_at size zero block s h = absurd (omega arith)
block_at size (suc n) zero s h = let e : 0 * size ≡ 0 = omega arith in rw e
block_at size (suc n) (suc block) s h =
    let e : size + block * size ≡ suc block * size = omega (arith, add-mul block 1 size) in
    rw (block_at size n block (drop size s) (omega arith), drop-drop, e)

-- a block, and what is after it
pub block_first : (block size : ℕ) (s : List ℕ) → all_zero (drop (block * size) s) ≡ (all_zero (bytes_from size s (block * size)) && all_zero (drop ((block + 1) * size) s))
block_first block size s =
    let at = block * size in
    let e : (block + 1) * size ≡ at + size = omega (arith, add-mul block 1 size) in
    rw e (ap all_zero (run_first size s at) ∙ zero_append (bytes_from size s at) (drop (at + size) s))

-- bytes that run out
pub zero_past : (s : List ℕ) (at : ℕ) → length s < at → all_zero (drop at s) ≡ true
zero_past s at h = let n : length s ≤ at = omega arith in rw (drop_of_length-le s n, zero_none)

pub zero_replicate : (n : ℕ) → all_zero (replicate n 0) ≡ true
unfolding all_zero
zero_replicate zero = refl
zero_replicate (suc n) = zero_replicate n

pub zeros_are : (bs : List ℕ) → all_zero bs ≡ true → bs ≡ replicate (length bs) 0
unfolding all_zero
zeros_are [] h = refl
zeros_are (b ∷ bs) h =
    let p = both (eqb b 0) (all_zero bs) h in
    ap₂ {C = List ℕ} (λ x y. x ∷ y) (eqb-true b 0 p.0) (zeros_are bs p.1)
