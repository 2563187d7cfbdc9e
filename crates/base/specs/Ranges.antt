-- Ranges and I/O requests: which are allowed, and the last byte of each.
use Rattle.std.specs.Prelude.{ℕ, ◌+◌, ◌-◌, ◌^◌, leb, eqb}
use Rattle.base.specs.Answer.{Answer, accepted, refused, pick}

-- the last byte of a file: "byte 2^64 - 1"
abbrev pub last_byte : ℕ
last_byte = 2 ^ 64 - 1

-- "offset + length at most 2^64 - 1"
abbrev pub largest_sum : ℕ
largest_sum = 2 ^ 64 - 1

-- "A length of 2^64 - 1 means through byte 2^64 - 1, from any offset."
abbrev pub to_the_end : ℕ
to_the_end = 2 ^ 64 - 1

-- "An I/O request has no such special length: length above 0 and offset + length at most 2^64 - 1, always."
unfoldable pub request_last : ℕ → ℕ → Answer ℕ
request_last offset len =
    pick (leb 1 len) (pick (leb (offset + len) largest_sum) (accepted (offset + len - 1)) (refused 5)) (refused 5)

-- "A range has a length above 0. A length of 2^64 - 1 means through byte 2^64 - 1, from any offset. Otherwise offset
-- + length must be at most 2^64 - 1.": for other lengths the rule is the one for I/O requests
unfoldable pub range_last : ℕ → ℕ → Answer ℕ
range_last offset len = pick (eqb len to_the_end) (accepted last_byte) (request_last offset len)
