-- Laws of items whose bytes are at an offset: what is read where they are, and what is where they were read.
use Prim.Native.Nat.{ℕ, ◌+◌, ◌^◌, ◌≤◌, ◌<◌}
use mathlib.Core.Path.{◌≡◌, refl, sym, ap, ◌∙◌}
use mathlib.Core.List.{List, ◌++◌}
use native.Mathlib.Omega.{arith}
use mathlib.Core.Bool.{Bool}
use borrow.Author.Tests.{le-leb}
use lib.Dec.{eqb}
use lib.ListN.{length, drop, replicate, length-append, length-replicate}
use Rattle.base.specs.Answer.{accepted, pick}
use Rattle.base.specs.Ranges.{range_last}
use Rattle.octets.specs.Numbers.{AllBytes, all_zero, be_bytes, bytes_from}
use Rattle.octets.proofs.NumberLaws.{be_round, be_small, dropped_bytes, length_be, length_bytes, taken_bytes}
use Rattle.octets.proofs.ZeroLaws.{zero_replicate, zeros_are}
use Rattle.octets.proofs.BytesAtLaws.{be_stands, bytes_are, BytesAt, bytes_at_join, bytes_at_parts}
use Rattle.xdr.specs.Parsed.{Parsed, ok, then, as_item}
use Rattle.xdr.specs.Items.{bool_at, bytes_at, count_at, num_at, opaque_at, opaque_bytes, padding, range_at}
use Rattle.xdr.specs.declared.Part.{Part}
use Rattle.xdr.specs.declared.range.Range.{Range}
use Rattle.xdr.proofs.Accepted.{Bytes, Number, bool_read, bytes_read, number_read, opaque_read, opaque_within, range_read}

-- ---- what is read where the bytes stand

pub num_stands : (k v : ℕ) (s : List ℕ) (at : ℕ) → v < 256 ^ k → BytesAt (be_bytes k v) s at → num_at k s at ≡ ok v (at + k)
unfolding num_at pick
num_stands k v s at h w =
    let n = length_be k v in
    let r : at + k ≤ length s = omega (arith, w.room) in
    let e : bytes_from k s at ≡ be_bytes k v = ap (λ (m : ℕ). bytes_from m s at) (sym n) ∙ w.same in
    rw (le-leb (at + k) (length s) r, e, be_round k v h)

pub count_stands : (least most v : ℕ) (s : List ℕ) (at : ℕ) → least ≤ v → v ≤ most → v < 256 ^ 4 → BytesAt (be_bytes 4 v) s at → count_at least most s at ≡ ok v (at + 4)
unfolding count_at then pick
count_stands least most v s at a b c w = rw (num_stands 4 v s at c w, le-leb least v a, le-leb v most b)

-- bytes with their padding
pub padded_stand : (n : ℕ) (bs s : List ℕ) (at : ℕ) → length bs ≡ n → BytesAt (bs ++ replicate (padding n) 0) s at
    → bytes_at n s at ≡ ok (record { start = at; len = n }) (at + n + padding n)
unfolding bytes_at pick
padded_stand n bs s at e w =
    let z : List ℕ = replicate (padding n) 0 in
    let m : length z ≡ padding n = length-replicate (padding n) 0 in
    let l : length (bs ++ z) ≡ n + padding n = length-append bs z ∙ omega (arith, e, m) in
    let r : at + n + padding n ≤ length s = omega (arith, w.room, l) in
    let b = (bytes_at_parts bs z s at w).1 in
    let f : at + length bs ≡ at + n = omega (arith, e) in
    let g : bytes_from (padding n) s (at + n) ≡ z = ap (λ (k : ℕ). bytes_from k s (at + n)) (sym m) ∙ (rw f at b).same in
    rw (le-leb (at + n + padding n) (length s) r, g, zero_replicate (padding n))

-- bytes that need no padding
pub bytes_stand : (n : ℕ) (bs s : List ℕ) (at : ℕ) → length bs ≡ n → padding n ≡ 0 → BytesAt bs s at → bytes_at n s at ≡ ok (record { start = at; len = n }) (at + n)
unfolding bytes_at pick all_zero
bytes_stand n bs s at e k w =
    let r : at + n + 0 ≤ length s = omega (arith, w.room, e) in
    let p : at + n + 0 ≡ at + n = omega arith in
    rw (k, le-leb (at + n + 0) (length s) r, p)

-- a length, the bytes and their padding
pub length_opaque : (bs : List ℕ) → length (opaque_bytes bs) ≡ 4 + length bs + padding (length bs)
unfolding opaque_bytes
length_opaque bs =
    let n = length bs in
    let z : List ℕ = replicate (padding n) 0 in
    let m : length z ≡ padding n = length-replicate (padding n) 0 in
    length-append (be_bytes 4 n) (bs ++ z) ∙ omega (arith, length_be 4 n, length-append bs z, m)

pub opaque_stands : (least most : ℕ) (bs s : List ℕ) (at : ℕ) → least ≤ length bs → length bs ≤ most → length bs < 256 ^ 4 → BytesAt (opaque_bytes bs) s at
    → opaque_at least most s at ≡ ok (record { start = at + 4; len = length bs }) (at + length (opaque_bytes bs))
unfolding opaque_at opaque_bytes then
opaque_stands least most bs s at a b c w =
    let n = length bs in
    let x = bytes_at_parts (be_bytes 4 n) (bs ++ replicate (padding n) 0) s at w in
    let p : at + length (be_bytes 4 n) ≡ at + 4 = omega (arith, length_be 4 n) in
    let q : at + length (opaque_bytes bs) ≡ at + 4 + n + padding n = omega (arith, length_opaque bs) in
    rw (count_stands least most n s at a b c x.0, q) (padded_stand n bs s (at + 4) refl (rw p at x.1))

-- the bytes themselves, behind their length
pub opaque_inside : (bs s : List ℕ) (at : ℕ) → BytesAt (opaque_bytes bs) s at → bytes_from (length bs) s (at + 4) ≡ bs
unfolding opaque_bytes
opaque_inside bs s at w =
    let n = length bs in
    let z : List ℕ = replicate (padding n) 0 in
    let x = bytes_at_parts (be_bytes 4 n) (bs ++ z) s at w in
    let y = (bytes_at_parts bs z s (at + length (be_bytes 4 n)) x.1).0 in
    let p : at + length (be_bytes 4 n) ≡ at + 4 = omega (arith, length_be 4 n) in
    rw p at y.same

pub bool_stands : (v : ℕ) (s : List ℕ) (at : ℕ) → v ≤ 1 → BytesAt (be_bytes 4 v) s at → bool_at s at ≡ ok (eqb v 1) (at + 4)
unfolding bool_at then pick
bool_stands v s at h w = rw (num_stands 4 v s at (omega (arith, h)) w, le-leb v 1 h)

-- ---- items one after the other, each at the end of the bytes before it

pub number_stands : (k v : ℕ) (s : List ℕ) (at : ℕ) → v < 256 ^ k → BytesAt (be_bytes k v) s at → num_at k s at ≡ ok v (at + length (be_bytes k v))
number_stands k v s at h w = rw (length_be k v) (num_stands k v s at h w)

pub then_stands : {A B : Type 0} (x : Parsed A) (f : A → ℕ → Parsed B) (a : A) (b : B) (xs ys s : List ℕ) (at : ℕ) → BytesAt (xs ++ ys) s at
    → (BytesAt xs s at → x ≡ ok a (at + length xs)) → (BytesAt ys s (at + length xs) → f a (at + length xs) ≡ ok b (at + length xs + length ys))
    → then x f ≡ ok b (at + length (xs ++ ys))
unfolding then
then_stands x f a b xs ys s at w g h =
    let p = bytes_at_parts xs ys s at w in
    let e : at + length (xs ++ ys) ≡ at + length xs + length ys = rw (length-append xs ys) (omega arith) in
    rw (g p.0, e) (h p.1)

pub range_stands : (o l last : ℕ) (s : List ℕ) (at : ℕ) → o < 256 ^ 8 → l < 256 ^ 8 → range_last o l ≡ accepted last → BytesAt (be_bytes 8 o ++ be_bytes 8 l) s at
    → range_at s at ≡ ok (record { offset = o; length = l; last = last }) (at + length (be_bytes 8 o ++ be_bytes 8 l))
unfolding range_at then as_item
range_stands o l last s at f g k w =
    then_stands _ _ o _ (be_bytes 8 o) (be_bytes 8 l) s at w (number_stands 8 o s at f)
    (λ v. rw (number_stands 8 l s (at + length (be_bytes 8 o)) g v, k))

-- ---- what stands where an item was read

pub num_back : (k : ℕ) (s : List ℕ) (at v p : ℕ) → AllBytes s → Number k s at v p → BytesAt (be_bytes k v) s at
num_back k s at v p b r = be_stands k s at v b (omega (arith, r.end, r.within)) r.value

pub number_small : (k : ℕ) (s : List ℕ) (at v p : ℕ) → AllBytes s → num_at k s at ≡ ok v p → v < 256 ^ k
number_small k s at v p b h =
    let r = number_read k s at v p h in
    let m = length_bytes k s at (omega (arith, r.end, r.within)) in
    rw r.value (rw m at (be_small (bytes_from k s at) (taken_bytes k (drop at s) (dropped_bytes at s b))))

pub padded_back : (n : ℕ) (s : List ℕ) (at : ℕ) (v : Part) (p : ℕ) → Bytes n s at v p → BytesAt (bytes_from n s at ++ replicate (padding n) 0) s at
padded_back n s at v p r =
    let m = length_bytes n s at (omega (arith, r.end, r.within)) in
    let i : at + n + padding n ≤ length s = omega (arith, r.end, r.within) in
    let z = bytes_from (padding n) s (at + n) in
    let e : z ≡ replicate (padding n) 0 = zeros_are z r.zeros ∙ ap (λ (k : ℕ). replicate k 0) (length_bytes (padding n) s (at + n) i) in
    rw (← e) (bytes_at_join (bytes_from n s at) z s at (at + n) (omega (arith, m)) (bytes_are n s at (omega (arith, r.end, r.within))) (bytes_are (padding n) s (at + n) i))

pub opaque_back : (least most : ℕ) (s : List ℕ) (at : ℕ) (v : Part) (p : ℕ) → AllBytes s → opaque_at least most s at ≡ ok v p
    → BytesAt (opaque_bytes (bytes_from v.len s v.start)) s at
unfolding opaque_bytes
opaque_back least most s at v p b h =
    let r = opaque_read least most s at v p h in
    let n4 = length_be 4 v.len in
    let e : v.start ≡ at + 4 = ap (λ (x : Part). x.start) r.bytes.value in
    let m : length (bytes_from v.len s v.start) ≡ v.len = length_bytes v.len s v.start (opaque_within least most s at v p h) in
    let first = num_back 4 s at v.len (at + 4) b r.count.number in
    let rest = padded_back v.len s (at + 4) v p r.bytes in
    rw (m, e) (bytes_at_join (be_bytes 4 v.len) (bytes_from v.len s (at + 4) ++ replicate (padding v.len) 0) s at (at + 4) (omega (arith, n4)) first rest)

-- ---- bytes that are at an offset, and end at another

pub record Spans (bs s : List ℕ) (at p : ℕ) : Type 0 where
  pub stands : BytesAt bs s at
  pub end : p ≡ at + length bs

pub spans_join : (xs ys s : List ℕ) (at p q : ℕ) → Spans xs s at p → Spans ys s p q → Spans (xs ++ ys) s at q
spans_join xs ys s at p q a b =
    record { stands = bytes_at_join xs ys s at p a.end a.stands b.stands; end = rw (length-append xs ys) (omega (arith, a.end, b.end)) }

pub number_spans : (k : ℕ) (s : List ℕ) (at v p : ℕ) → AllBytes s → num_at k s at ≡ ok v p → Spans (be_bytes k v) s at p
number_spans k s at v p b h =
    let r = number_read k s at v p h in
    record { stands = num_back k s at v p b r; end = rw (length_be k v) r.end }

pub bool_spans : (s : List ℕ) (at : ℕ) (v : Bool) (p : ℕ) → AllBytes s → bool_at s at ≡ ok v p → Spans (be_bytes 4 (pick v 1 0)) s at p
bool_spans s at v p b h =
    let r = bool_read s at v p h in
    record { stands = num_back 4 s at (pick v 1 0) p b r; end = rw (length_be 4 (pick v 1 0)) r.end }

pub range_spans : (s : List ℕ) (at : ℕ) (v : Range) (p : ℕ) → AllBytes s → range_at s at ≡ ok v p → Spans (be_bytes 8 v.offset ++ be_bytes 8 v.length) s at p
range_spans s at v p b h =
    let r = range_read s at v p h in
    spans_join _ _ s at (at + 8) p (number_spans 8 s at v.offset (at + 8) b r.offset) (number_spans 8 s (at + 8) v.length p b r.len)

-- bytes that need no padding
pub bytes_span : (n : ℕ) (s : List ℕ) (at : ℕ) (v : Part) (p : ℕ) → padding n ≡ 0 → bytes_at n s at ≡ ok v p → Spans (bytes_from n s v.start) s at p
bytes_span n s at v p k h =
    let r = bytes_read n s at v p h in
    let e : v.start ≡ at = ap (λ (x : Part). x.start) r.value in
    let i : at + n ≤ length s = omega (arith, r.end, r.within) in
    rw e (record { stands = bytes_are n s at i; end = rw (length_bytes n s at i) (omega (arith, r.end, k)) })

pub opaque_spans : (least most : ℕ) (s : List ℕ) (at : ℕ) (v : Part) (p : ℕ) → AllBytes s → opaque_at least most s at ≡ ok v p
    → Spans (opaque_bytes (bytes_from v.len s v.start)) s at p
opaque_spans least most s at v p b h =
    let r = opaque_read least most s at v p h in
    let bs = bytes_from v.len s v.start in
    let m : length bs ≡ v.len = length_bytes v.len s v.start (opaque_within least most s at v p h) in
    record { stands = opaque_back least most s at v p b h; end = rw (length_opaque bs, m) (omega (arith, r.bytes.end)) }
