-- Laws of bytes stored into a buffer: a number is stored from its last byte to its first, or the other way round, and runs of stores join.
use Prim.Native.Nat.{ℕ, ◌+◌, ◌≤◌, ◌<◌}
use mathlib.Core.Path.{◌≡◌, refl, sym, ap, ◌∙◌}
use mathlib.Core.Bool.{Bool, true, false}
use mathlib.Core.List.{List, [], ◌∷◌, ◌++◌, append_assoc}
use native.Mathlib.Omega.{arith}
use borrow.Author.Tests.{le-leb, lt-leb}
use lib.Dec.{leb}
use lib.ListN.{length, replicate, set, length-append, length-replicate, replicate-append-replicate}
use lib.Seq.{drop-drop, sets, sets-eq, length-sets}
use borrow.Rule.Slice.PartMut.{put_mid}
use Rattle.base.specs.Answer.{pick}
use Rattle.base.proofs.ListLaws.{sets_append, sets_sets}
use Rattle.octets.specs.Buffers.{stored}

pub fits_stored : (l : List ℕ) (at : ℕ) (bs : List ℕ) → at + length bs ≤ length l → stored l at bs ≡ sets l at bs
unfolding stored pick
fits_stored l at bs h = rw (le-leb _ _ h)

pub unfit_stored : (l : List ℕ) (at : ℕ) (bs : List ℕ) → length l < at + length bs → stored l at bs ≡ l
unfolding stored pick
unfit_stored l at bs h = rw (lt-leb _ _ h)

-- a part of the buffer that is written whole
pub part_stored : (l : List ℕ) (at : ℕ) (bs : List ℕ) (k : ℕ) → k ≡ length bs → at + length bs ≤ length l → put_mid at k l bs ≡ stored l at bs
part_stored l at bs k e h = rw (fits_stored l at bs h, sets-eq bs l at h, e, drop-drop, append_assoc)

-- ---- zeros

pub unfit_zeros : (l : List ℕ) (at n : ℕ) → length l < at + n → stored l at (replicate n 0) ≡ l
unfit_zeros l at n h = unfit_stored l at (replicate n 0) (omega (arith, length-replicate {A = ℕ} n 0))

pub fits_zeros : (l : List ℕ) (at n : ℕ) → at + n ≤ length l → stored l at (replicate n 0) ≡ sets l at (replicate n 0)
fits_zeros l at n h = fits_stored l at (replicate n 0) (omega (arith, length-replicate {A = ℕ} n 0))

-- one zero more
pub next_zero : (l : List ℕ) (at i : ℕ) → sets l at (replicate (i + 1) 0) ≡ set (sets l at (replicate i 0)) (at + i) 0
next_zero l at i =
    ap (sets l at) (sym (replicate-append-replicate i 1 0))
    ∙ sets_append l at (replicate i 0) (0 ∷ [])
    ∙ ap (λ (m : ℕ). set (sets l at (replicate i 0)) (at + m) 0) (length-replicate {A = ℕ} i 0)

-- what zeros in a loop need
pub ruleset zeros_stored = (unfit_zeros, fits_zeros, next_zero)

pub length_stored : (l : List ℕ) (at : ℕ) (bs : List ℕ) → length (stored l at bs) ≡ length l
unfolding stored pick
length_stored l at bs = go (leb (at + length bs) (length l)) where
  go : (t : Bool) → length (pick t (sets l at bs) l) ≡ length l
  go true = length-sets l at bs
  go false = refl

-- bytes stored right after others are stored with them
pub stored_then : (l : List ℕ) (at p : ℕ) (xs ys : List ℕ) → p ≡ at + length xs → p + length ys ≤ length l
    → stored (stored l at xs) p ys ≡ stored l at (xs ++ ys)
stored_then l at p xs ys e h =
    let a : at + length xs ≤ length l = omega arith in
    let b : p + length ys ≤ length (stored l at xs) = rw (length_stored l at xs) h in
    let c : at + length (xs ++ ys) ≤ length l = simp length-append (omega arith) in
    rw (fits_stored (stored l at xs) p ys b, fits_stored l at xs a, fits_stored l at (xs ++ ys) c, e) (sym (sets_append l at xs ys))

-- bytes stored right before others are stored with them
pub stored_before : (l : List ℕ) (at p : ℕ) (xs ys : List ℕ) → p ≡ at + length xs → p + length ys ≤ length l
    → stored (stored l p ys) at xs ≡ stored l at (xs ++ ys)
stored_before l at p xs ys e h =
    let a : at + length xs ≤ length (stored l p ys) = rw (length_stored l p ys) (omega arith) in
    let c : at + length (xs ++ ys) ≤ length l = simp length-append (omega arith) in
    rw (fits_stored (stored l p ys) at xs a, fits_stored l p ys h, fits_stored l at (xs ++ ys) c, e)
    (sets_sets l at xs (at + length xs) ys (omega arith) ∙ sym (sets_append l at xs ys))
