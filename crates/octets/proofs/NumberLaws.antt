-- Laws of numbers as bytes, each over the width: the first byte and the rest, two parts, what is written is read back, what is read is written
-- back.
use Prim.Native.Nat.{ℕ, zero, suc, ◌+◌, ◌-◌, ◌*◌, ◌/◌, ◌%◌, ◌^◌, ◌≤◌, ◌<◌}
use mathlib.Core.Path.{◌≡◌, refl, sym, ap, ◌∙◌}
use mathlib.Core.List.{List, [], ◌∷◌, ◌++◌}
use native.Mathlib.Nat.{pow-suc, add-mul, mul_assoc, mul_comm, mul-le-mul_right, div-add-mod', div-lt_iff_lt-mul}
use native.Mathlib.Omega.{arith}
use borrow.Author.Tests.{le-leb, lt-leb}
use lib.ListN.{length, take, drop, get_or, length-append, length-take, length-drop, take-append-drop}
use lib.Seq.{drop_at, drop-cons, take-add, take_all, take-suc, take-take, drop-drop, get_or-drop}
use Rattle.base.specs.Answer.{pick}
use Rattle.octets.specs.Numbers.{AllBytes, be_at, bytes_from, le_at, be_from, be_value, be_bytes, le_value, le_bytes}

-- ---- bytes of a list

pub first_byte : (k : ℕ) (s : List ℕ) (at : ℕ) → at < length s → bytes_from (suc k) s at ≡ get_or s at 0 ∷ bytes_from k s (suc at)
first_byte k s at h = rw (drop-cons s at 0 h)

pub two_parts : (j k : ℕ) (s : List ℕ) (at : ℕ) → bytes_from (j + k) s at ≡ bytes_from j s at ++ bytes_from k s (at + j)
two_parts j k s at = rw (take-add j k (drop at s), drop-drop)

pub length_bytes : (k : ℕ) (s : List ℕ) (at : ℕ) → at + k ≤ length s → length (bytes_from k s at) ≡ k
length_bytes k s at h = simp (length-take, length-drop) (omega arith)

-- the bytes in a run of bytes
pub bytes_in_run : (j k : ℕ) (s : List ℕ) (at p : ℕ) → p + j ≤ k → at + k ≤ length s → bytes_from j (bytes_from k s at) p ≡ bytes_from j s (at + p)
bytes_in_run j k s at p h r =
    let e : k ≡ p + (k - p) = omega arith in
    let n : length (bytes_from p s at) ≡ p = length_bytes p s at (omega arith) in
    let f : bytes_from k s at ≡ bytes_from p s at ++ bytes_from (k - p) s (at + p) = ap (λ (m : ℕ). bytes_from m s at) e ∙ two_parts p (k - p) s at in
    rw (f, drop_at (bytes_from p s at) (bytes_from (k - p) s (at + p)) p n) (take-take j (k - p) (drop (at + p) s) (omega arith))

-- the k bytes from an offset, and what is after them
pub run_first : (k : ℕ) (s : List ℕ) (at : ℕ) → drop at s ≡ bytes_from k s at ++ drop (at + k) s
run_first k s at = sym (take-append-drop k (drop at s)) ∙ ap (λ (l : List ℕ). bytes_from k s at ++ l) (drop-drop k at s)

-- the byte i bytes on, and the k after it
next_byte : (i k : ℕ) (s : List ℕ) (at : ℕ) → at + i < length s → bytes_from (suc k) s (at + i) ≡ get_or s (at + i) 0 ∷ bytes_from k s (at + suc i)
next_byte i k s at h = let e : at + suc i ≡ suc (at + i) = omega arith in rw e (first_byte k s (at + i) h)

pub four_bytes : (s : List ℕ) (at : ℕ) → at + 4 ≤ length s
    → bytes_from 4 s at ≡ get_or s at 0 ∷ get_or s (at + 1) 0 ∷ get_or s (at + 2) 0 ∷ get_or s (at + 3) 0 ∷ []
four_bytes s at h =
    let h0 : at < length s = omega arith in
    let h1 : at + 1 < length s = omega arith in
    let h2 : at + 2 < length s = omega arith in
    let h3 : at + 3 < length s = omega arith in
    let e : suc at ≡ at + 1 = omega arith in
    rw (first_byte 3 s at h0, e, next_byte 1 2 s at h1, next_byte 2 1 s at h2, next_byte 3 0 s at h3)

pub two_bytes : (s : List ℕ) (at : ℕ) → at + 2 ≤ length s → bytes_from 2 s at ≡ get_or s at 0 ∷ get_or s (at + 1) 0 ∷ []
two_bytes s at h =
    let h0 : at < length s = omega arith in
    let h1 : at + 1 < length s = omega arith in
    let e : suc at ≡ at + 1 = omega arith in
    rw (first_byte 1 s at h0, e, next_byte 1 0 s at h1)

-- ---- a number at a place

module _ (k : ℕ) (s : List ℕ) (at : ℕ) where
  pub be_short : length s < at + k → be_at k s at ≡ 0
  unfolding be_at pick
  be_short h = rw (lt-leb _ _ h)

  pub le_short : length s < at + k → le_at k s at ≡ 0
  unfolding le_at pick
  le_short h = rw (lt-leb _ _ h)

  pub be_there : at + k ≤ length s → be_at k s at ≡ be_value (bytes_from k s at)
  unfolding be_at pick
  be_there h = rw (le-leb _ _ h)

  pub le_there : at + k ≤ length s → le_at k s at ≡ le_value (bytes_from k s at)
  unfolding le_at pick
  le_there h = rw (le-leb _ _ h)

-- a number in a run of bytes
pub be_in_run : (j k : ℕ) (s : List ℕ) (at p : ℕ) → p + j ≤ k → at + k ≤ length s → be_at j (bytes_from k s at) p ≡ be_at j s (at + p)
be_in_run j k s at p h r =
    let n : p + j ≤ length (bytes_from k s at) = rw (length_bytes k s at r) h in
    rw (be_there j (bytes_from k s at) p n, be_there j s (at + p) (omega arith), bytes_in_run j k s at p h r)

-- ---- a number in two parts

be_from_lem : (v : ℕ) (bs : List ℕ) → be_from v bs ≡ v * 256 ^ length bs + be_from 0 bs
unfolding be_from
be_from_lem v [] = omega arith
be_from_lem v (b ∷ bs) =
    let P = 256 ^ length bs in
    let e : (v * 256 + b) * P ≡ v * 256 * P + b * P = add-mul (v * 256) b P in
    let f : v * 256 ^ suc (length bs) ≡ v * 256 * P = ap (λ (n : ℕ). v * n) (pow-suc 256 (length bs) ∙ mul_comm P 256) ∙ sym (mul_assoc v 256 P) in
    let g : (0 * 256 + b) * P ≡ b * P = ap (λ (n : ℕ). n * P) (omega arith) in
    let h : (v * 256 + b) * P + be_from 0 bs ≡ v * 256 ^ suc (length bs) + ((0 * 256 + b) * P + be_from 0 bs) = omega (arith, e, f, g) in
    be_from_lem (v * 256 + b) bs ∙ h ∙ ap (λ (n : ℕ). v * 256 ^ suc (length bs) + n) (sym (be_from_lem (0 * 256 + b) bs))

be_from_append : (v : ℕ) (xs ys : List ℕ) → be_from v (xs ++ ys) ≡ be_from (be_from v xs) ys
unfolding be_from
be_from_append v [] ys = refl
be_from_append v (x ∷ xs) ys = be_from_append (v * 256 + x) xs ys

pub be_append : (xs ys : List ℕ) → be_value (xs ++ ys) ≡ be_value xs * 256 ^ length ys + be_value ys
unfolding be_value
be_append xs ys = be_from_append 0 xs ys ∙ be_from_lem (be_from 0 xs) ys

-- ---- what is written is read back, and the other way round

pub length_be : (k v : ℕ) → length (be_bytes k v) ≡ k
unfolding be_bytes
length_be zero v = refl
length_be (suc k) v = simp (length-append, length_be k (v / 256)) (omega arith)

pub be_snoc : (bs : List ℕ) (b : ℕ) → be_value (bs ++ (b ∷ [])) ≡ be_value bs * 256 + b
unfolding be_value be_from
be_snoc bs b = be_from_append 0 bs (b ∷ [])

be_none : be_value [] ≡ 0
unfolding be_value be_from
be_none = refl

pub be_round : (k v : ℕ) → v < 256 ^ k → be_value (be_bytes k v) ≡ v
unfolding be_bytes
be_round zero v h = let e : v ≡ 0 = omega arith in rw e be_none
be_round (suc k) v h =
    let q : v / 256 < 256 ^ k = (div-lt_iff_lt-mul {k = 256} (omega arith)).1 (omega (arith, pow-suc 256 k)) in
    rw (be_snoc (be_bytes k (v / 256)) (v % 256), be_round k (v / 256) q) (div-add-mod' v 256)

pub length_le : (k v : ℕ) → length (le_bytes k v) ≡ k
unfolding le_bytes
length_le zero v = refl
length_le (suc k) v = ap suc (length_le k (v / 256))

pub le_round : (k v : ℕ) → v < 256 ^ k → le_value (le_bytes k v) ≡ v
unfolding le_bytes le_value
le_round zero v h = omega arith
le_round (suc k) v h =
    let q : v / 256 < 256 ^ k = (div-lt_iff_lt-mul {k = 256} (omega arith)).1 (omega (arith, pow-suc 256 k)) in
    rw (le_round k (v / 256) q) (div-add-mod' v 256)

-- each element is a byte
pub taken_bytes : (k : ℕ) (bs : List ℕ) → AllBytes bs → AllBytes (take k bs)
taken_bytes zero bs h i = omega arith
taken_bytes (suc k) [] h i = omega arith
taken_bytes (suc k) (b ∷ bs) h zero = h 0
taken_bytes (suc k) (b ∷ bs) h (suc i) = taken_bytes k bs (λ j. h (suc j)) i

pub dropped_bytes : (k : ℕ) (bs : List ℕ) → AllBytes bs → AllBytes (drop k bs)
dropped_bytes k bs h i = rw get_or-drop (h (k + i))

-- the last byte apart
last_byte : (k : ℕ) (bs : List ℕ) → length bs ≡ suc k → bs ≡ take k bs ++ (get_or bs k 0 ∷ [])
last_byte k bs h =
    let n : k < length bs = omega arith in
    let m : length bs ≤ suc k = omega arith in
    sym (take_all (suc k) bs m) ∙ take-suc bs k 0 n

pub be_back : (k : ℕ) (bs : List ℕ) → length bs ≡ k → AllBytes bs → be_bytes k (be_value bs) ≡ bs
unfolding be_bytes
be_back zero [] h b = refl
be_back zero (x ∷ bs) h b = absurd (omega (arith, h))
be_back (suc k) bs h b =
    let i = take k bs in
    let x = get_or bs k 0 in
    let v : be_value bs ≡ be_value i * 256 + x = ap be_value (last_byte k bs h) ∙ be_snoc i x in
    let x256 : x < 256 = b k in
    let q : be_value bs / 256 ≡ be_value i = omega arith in
    let r : be_value bs % 256 ≡ x = omega arith in
    let n : length i ≡ k = simp length-take (omega arith) in
    rw (q, r, be_back k i n (taken_bytes k bs b)) (sym (last_byte k bs h))

pub le_back : (bs : List ℕ) → AllBytes bs → le_bytes (length bs) (le_value bs) ≡ bs
unfolding le_bytes le_value
le_back [] h = refl
le_back (b ∷ bs) h =
    let c : b < 256 = h 0 in
    let q : (le_value bs * 256 + b) / 256 ≡ le_value bs = omega arith in
    let r : (le_value bs * 256 + b) % 256 ≡ b = omega arith in
    rw (q, r, le_back bs (λ i. h (suc i)))

-- a number of bytes is below the next power
pub be_small : (bs : List ℕ) → AllBytes bs → be_value bs < 256 ^ length bs
be_small [] h = let z = be_none in omega arith
be_small (b ∷ bs) h =
    let P = 256 ^ length bs in
    let k : be_value bs < P = be_small bs (λ i. h (suc i)) in
    let c : b < 256 = h 0 in
    let z = be_none in
    let d : be_value (b ∷ []) ≡ b = be_snoc [] b ∙ omega arith in
    let m : b * P ≤ 255 * P = mul-le-mul_right P (omega arith) in
    let e : be_value (b ∷ bs) ≡ b * P + be_value bs = be_append (b ∷ []) bs ∙ ap (λ (n : ℕ). n * P + be_value bs) d in
    let q : 256 ^ suc (length bs) ≡ P * 256 = pow-suc 256 (length bs) in
    omega arith
