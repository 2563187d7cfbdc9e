-- The items of XDR, each at an offset of a list of bytes. "At one item the order is: enough bytes (its padding
-- counted), then its value, then its padding. A length or count in front is an item of its own."
use Rattle.std.specs.Prelude.{ℕ, ◌+◌, ◌-◌, ◌%◌, List, ◌++◌, Bool, ◌&&◌, length, replicate, leb, eqb}
use Rattle.base.specs.Answer.{pick}
use Rattle.base.specs.Ranges.{range_last}
use Rattle.octets.specs.Numbers.{all_zero, be_bytes, be_value, bytes_from}
use Rattle.xdr.specs.Parsed.{Parsed, ok, fault, then, as_item}
use Rattle.xdr.specs.declared.Part.{Part}
use Rattle.xdr.specs.declared.range.Range.{Range}

-- a number of k bytes: "All wire numbers are big-endian: 4 or 8 bytes."
unfoldable pub num_at : ℕ → List ℕ → ℕ → Parsed ℕ
num_at k s at = pick (leb (at + k) (length s)) (ok (be_value (bytes_from k s at)) (at + k)) (fault 1)

-- "A boolean is 4 bytes, 0 or 1."
unfoldable pub bool_at : List ℕ → ℕ → Parsed Bool
bool_at s at = then (num_at 4 s at) λ n p. pick (leb n 1) (ok (eqb n 1) p) (fault 7)

-- a count or a length from least to most; 8 outside, whatever follows: "an item of its own"
unfoldable pub count_at : ℕ → ℕ → List ℕ → ℕ → Parsed ℕ
count_at least most s at = then (num_at 4 s at) λ n p. pick (leb least n && leb n most) (ok n p) (fault 8)

-- "0 to 3 zero bytes up to a multiple of 4"
abbrev pub padding : ℕ → ℕ
padding n = (4 - n % 4) % 4

-- n bytes and their padding; the value is where they are
unfoldable pub bytes_at : ℕ → List ℕ → ℕ → Parsed Part
bytes_at n s at =
    pick (leb (at + n + padding n) (length s))
    (pick (all_zero (bytes_from (padding n) s (at + n))) (ok (record { start = at; len = n }) (at + n + padding n))
    (fault 6))
    (fault 1)

-- "Variable opaque and string data have a 4-byte length, the bytes, then 0 to 3 zero bytes": of least to most bytes
unfoldable pub opaque_at : ℕ → ℕ → List ℕ → ℕ → Parsed Part
opaque_at least most s at = then (count_at least most s at) λ n p. bytes_at n s p

-- the bytes that opaque_at reads: the length, the bytes, their padding
unfoldable pub opaque_bytes : List ℕ → List ℕ
opaque_bytes bs = be_bytes 4 (length bs) ++ (bs ++ replicate (padding (length bs)) 0)

-- "offset, length (the pair obeys the range rule, judged here)": the range is judged when both its numbers are read
unfoldable pub range_at : List ℕ → ℕ → Parsed Range
range_at s at =
    then (num_at 8 s at) λ offset p1.
    then (num_at 8 s p1) λ len p2.
    then (as_item (range_last offset len) p2) λ last p3.
    ok (record { offset = offset; length = len; last = last }) p3
