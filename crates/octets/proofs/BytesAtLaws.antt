-- Laws of bytes that are at an offset of a list: parts and joins, and a number that is there.
use Prim.Native.Nat.{ℕ, ◌+◌, ◌^◌, ◌≤◌, ◌<◌}
use mathlib.Core.Path.{◌≡◌, refl, sym, ap, ◌∙◌}
use mathlib.Core.List.{List, ◌++◌}
use native.Mathlib.Omega.{arith}
use borrow.Author.Tests.{le-leb}
use lib.ListN.{length, take, drop, length-append}
use lib.Seq.{drop_at, take_at, take-length}
use Rattle.base.specs.Answer.{pick}
use Rattle.octets.specs.Numbers.{AllBytes, be_at, be_bytes, be_value, bytes_from}
use Rattle.octets.proofs.NumberLaws.{be_back, be_round, dropped_bytes, length_be, length_bytes, taken_bytes, two_parts}

-- the bytes bs are in s from an offset on
pub record BytesAt (bs s : List ℕ) (at : ℕ) : Type 0 where
  pub room : at + length bs ≤ length s
  pub same : bytes_from (length bs) s at ≡ bs

pub bytes_at_whole : (bs : List ℕ) → BytesAt bs bs 0
bytes_at_whole bs = record { room = omega arith; same = take-length bs }

pub whole_stands : (bs s : List ℕ) → BytesAt bs s 0 → length bs ≡ length s → bs ≡ s
whole_stands bs s h e = sym h.same ∙ ap (λ (n : ℕ). take n s) e ∙ take-length s

pub bytes_at_parts : (xs ys s : List ℕ) (at : ℕ) → BytesAt (xs ++ ys) s at → BytesAt xs s at × BytesAt ys s (at + length xs)
bytes_at_parts xs ys s at h =
    let n : length (xs ++ ys) ≡ length xs + length ys = length-append xs ys in
    let a : at + length xs ≤ length s = omega (arith, h.room) in
    let b : at + length xs + length ys ≤ length s = omega (arith, h.room) in
    let m : length (bytes_from (length xs) s at) ≡ length xs = length_bytes (length xs) s at a in
    let e : bytes_from (length xs) s at ++ bytes_from (length ys) s (at + length xs) ≡ xs ++ ys =
    sym (two_parts (length xs) (length ys) s at) ∙ ap (λ (k : ℕ). bytes_from k s at) (sym n) ∙ h.same in
    let f : bytes_from (length xs) s at ≡ xs =
    sym (take_at _ (bytes_from (length ys) s (at + length xs)) (length xs) m) ∙ ap (take (length xs)) e ∙ take_at xs ys (length xs) refl in
    let g : bytes_from (length ys) s (at + length xs) ≡ ys =
    sym (drop_at (bytes_from (length xs) s at) _ (length xs) m) ∙ ap (drop (length xs)) e ∙ drop_at xs ys (length xs) refl in
    (record { room = a; same = f }, record { room = b; same = g })

pub bytes_at_join : (xs ys s : List ℕ) (at p : ℕ) → p ≡ at + length xs → BytesAt xs s at → BytesAt ys s p → BytesAt (xs ++ ys) s at
bytes_at_join xs ys s at p e a b =
    let n : length (xs ++ ys) ≡ length xs + length ys = length-append xs ys in
    record {
      room = omega (arith, b.room);
      same = ap (λ (k : ℕ). bytes_from k s at) n ∙ two_parts (length xs) (length ys) s at
          ∙ ap (λ (x : List ℕ). x ++ bytes_from (length ys) s (at + length xs)) a.same
          ∙ ap (λ (k : ℕ). xs ++ bytes_from (length ys) s k) (sym e)
          ∙ ap (λ (x : List ℕ). xs ++ x) b.same;
    }

-- ---- a number that stands there

pub be_stands_at : (k v : ℕ) (s : List ℕ) (at : ℕ) → v < 256 ^ k → BytesAt (be_bytes k v) s at → be_at k s at ≡ v
unfolding be_at pick
be_stands_at k v s at h w =
    let n = length_be k v in
    let r : at + k ≤ length s = omega (arith, w.room) in
    let e : bytes_from k s at ≡ be_bytes k v = ap (λ (m : ℕ). bytes_from m s at) (sym n) ∙ w.same in
    rw (le-leb (at + k) (length s) r, e, be_round k v h)

pub be_stands : (k : ℕ) (s : List ℕ) (at v : ℕ) → AllBytes s → at + k ≤ length s → v ≡ be_value (bytes_from k s at) → BytesAt (be_bytes k v) s at
be_stands k s at v b r e =
    let n = length_be k v in
    let m : length (bytes_from k s at) ≡ k = length_bytes k s at r in
    let back : be_bytes k v ≡ bytes_from k s at = ap (be_bytes k) e ∙ be_back k (bytes_from k s at) m (taken_bytes k (drop at s) (dropped_bytes at s b)) in
    record { room = omega (arith, n); same = ap (λ (m : ℕ). bytes_from m s at) n ∙ sym back }

pub bytes_are : (k : ℕ) (s : List ℕ) (at : ℕ) → at + k ≤ length s → BytesAt (bytes_from k s at) s at
bytes_are k s at r =
    let m : length (bytes_from k s at) ≡ k = length_bytes k s at r in
    record { room = omega (arith, m); same = ap (λ (n : ℕ). bytes_from n s at) m }

pub be_at_stands : (k : ℕ) (s : List ℕ) (at : ℕ) → AllBytes s → at + k ≤ length s → BytesAt (be_bytes k (be_at k s at)) s at
unfolding be_at pick
be_at_stands k s at b r = be_stands k s at (be_at k s at) b r (rw (le-leb (at + k) (length s) r))
