-- The forms of the payloads that have more than a body, as docs/ANSWERS.md has them. Their numbers are little-endian,
-- and 0 where the bytes run out.
use Rattle.std.specs.Prelude.{ℕ, ◌+◌, ◌*◌, min, Bool, ◌&&◌, List, leb, eqb, length}
use Rattle.base.specs.Limits.{error_size, most_errors_in_all, most_reports, most_statistics, report_head_size}
use Rattle.octets.specs.Numbers.{le_at}

-- bind: the layout's length in the last four of the first 32 bytes, and a layout body of that length after them
unfoldable pub is_bind : List ℕ → Bool
is_bind s = leb (32 + le_at 4 s 28) (length s)

-- report-write and return-write: where the list length is, after "that many reports but at most 8", each of 36 bytes
unfoldable pub error_list_at : ℕ → ℕ
error_list_at count = 8 + report_head_size * min count most_reports

-- where that many errors of 24 bytes end, the list length being at an offset
unfoldable pub list_end : List ℕ → ℕ → ℕ
list_end s at = at + 4 + error_size * le_at 4 s at

-- the output length is at most so much, and the list length at most 128
unfoldable pub lengths_fit : ℕ → List ℕ → Bool
lengths_fit longest s = leb (le_at 4 s 0) longest && leb (le_at 4 s (error_list_at (le_at 4 s 4))) most_errors_in_all

-- report-write: output length, report count, reports, list length, errors; the output has at most 4,096 bytes
unfoldable pub is_report_write : List ℕ → Bool
is_report_write s = lengths_fit 4096 s && eqb (length s) (list_end s (error_list_at (le_at 4 s 4)))

-- a record of statistics in a payload: "each of 436 bytes"
abbrev pub record_size : ℕ
record_size = 436

-- where "as many records, or 8 where the count is higher" end, the statistics count being at an offset
unfoldable pub records_end : List ℕ → ℕ → ℕ
records_end s at = at + 4 + record_size * min (le_at 4 s at) most_statistics

-- return-write: as report-write, then statistics count, records; the output has at most 8,192 bytes
unfoldable pub is_return_write : List ℕ → Bool
is_return_write s = lengths_fit 8192 s && eqb (length s) (records_end s (list_end s (error_list_at (le_at 4 s 4))))
