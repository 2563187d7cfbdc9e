-- The layout return, ff_layoutreturn4 of RFC 8435, 9.3, written: what is judged, in which order, and the bytes of the
-- body; and what the functions inside this crate promise of them.
use Rattle.std.specs.Prelude.{ℕ, zero, suc, ◌+◌, ◌≤◌, ◌≡◌, List, [], ◌∷◌, ◌++◌, Bool, true, ◌&&◌, length, take, drop, leb, eqb}
use Rattle.std.proofs.lemmas.List.Edits.{sets}
use Rattle.base.specs.Answer.{Answer, accepted, refused, given, pick}
use Rattle.base.specs.Limits.{device_id_size, error_size, most_errors, most_reports, most_statistics, stateid_size}
use Rattle.base.specs.Ranges.{range_last}
use Rattle.octets.specs.Numbers.{bytes_from, be_at, be_bytes}
use Rattle.statistics.specs.StatisticBytes.{statistics_part}
use Rattle.statistics.specs.StatisticChecks.{checked_statistics}
use Rattle.statistics.specs.declared.Statistic.{Statistic}
use Rattle.report.specs.Reports.{error_fits, error_operation_offset, error_status_offset}
use Rattle.report.specs.declared.Outgoing.{Outgoing}
use Rattle.report.specs.declared.ReportHead.{ReportHead}

-- one of the errors to be written
pub record ErrorEntry : Type 0 where
  pub device : List ℕ
  pub status : ℕ
  pub operation : ℕ

-- the entry whose 24 bytes are at an offset. A number that is not there whole is 0: an entry that is not there whole
-- is never allowed.
unfoldable pub entry_here : List ℕ → ℕ → ErrorEntry
entry_here s at = record {
  device = bytes_from device_id_size s at;
  status = be_at 4 s (at + error_status_offset);
  operation = be_at 4 s (at + error_operation_offset);
}

-- the n entries from an offset on
unfoldable pub entries_at : ℕ → List ℕ → ℕ → List ErrorEntry
entries_at zero s at = []
entries_at (suc n) s at = entry_here s at ∷ entries_at n s (at + error_size)

-- ---- what an array of heads has by its type

-- each stateid has 16 bytes
unfoldable pub stateids_whole : List ReportHead → Bool
stateids_whole [] = true
stateids_whole (h ∷ hs) = eqb (length h.stateid) stateid_size && stateids_whole hs

-- ---- what is judged

-- "the counts together must be the list's length"
unfoldable pub counts : List ReportHead → ℕ
counts [] = 0
counts (h ∷ hs) = h.errors + counts hs

-- "an error's operation is not 5, 25 or 38 .., or its status is 0" of none of them
unfoldable pub all_fit : List ErrorEntry → Bool
all_fit [] = true
all_fit (e ∷ es) = error_fits e.status e.operation && all_fit es

-- a report and its errors: the range, the error count (1 to 16), each error
unfoldable pub checked_report : ReportHead → List ErrorEntry → Answer (Unit {0})
checked_report h es =
    given (range_last h.offset h.length) λ last.
    pick (leb 1 h.errors && leb h.errors most_errors)
    (pick (all_fit es) (accepted tt) (refused 27))
    (refused 8)

-- "then reports in order": the errors of the list go to the reports by their counts
unfoldable pub checked_reports : List ReportHead → List ErrorEntry → Answer (Unit {0})
checked_reports [] es = accepted tt
checked_reports (h ∷ hs) es = given (checked_report h (take h.errors es)) λ u. checked_reports hs (drop h.errors es)

-- ---- the bytes

-- "errors of device id, status, operation"
unfoldable pub error_bytes : ErrorEntry → List ℕ
error_bytes e = e.device ++ (be_bytes 4 e.status ++ be_bytes 4 e.operation)

unfoldable pub errors_bytes : List ErrorEntry → List ℕ
errors_bytes [] = []
errors_bytes (e ∷ es) = error_bytes e ++ errors_bytes es

-- "A report: offset, length .., stateid, error count"
unfoldable pub head_bytes : ReportHead → List ℕ
head_bytes h = be_bytes 8 h.offset ++ (be_bytes 8 h.length ++ (h.stateid ++ be_bytes 4 h.errors))

-- each report's head, then as many errors of the list as its count says
unfoldable pub reports_bytes : List ReportHead → List ErrorEntry → List ℕ
reports_bytes [] es = []
reports_bytes (h ∷ hs) es = head_bytes h ++ (errors_bytes (take h.errors es) ++ reports_bytes hs (drop h.errors es))

-- "Report count (0 to 8), reports", then the bytes z of what follows them
unfoldable pub body_bytes : List ReportHead → List ErrorEntry → List ℕ → List ℕ
body_bytes hs es z = be_bytes 4 (length hs) ++ (reports_bytes hs es ++ z)

-- the statistics follow them: their count and the records
abbrev pub return_bytes : List ReportHead → List ErrorEntry → List Statistic → List ℕ
return_bytes hs es rs = body_bytes hs es (statistics_part rs)

-- ---- the whole

-- "the output is too short"
unfoldable pub fitted : List ℕ → ℕ → Answer (List ℕ)
fitted bs room = pick (leb (length bs) room) (accepted bs) (refused 26)

-- "In writing, too many reports come first (8), then a list of another length (8), then too many statistics (8), then
-- reports in order, then records in order, then 26." (C-13)
unfoldable pub return_written : Outgoing → List ErrorEntry → ℕ → Answer (List ℕ)
return_written o es room =
    pick (leb o.count most_reports)
    (pick (eqb (counts (take o.count o.heads)) (length es))
    (pick (leb o.statistic_count most_statistics)
    (given (checked_reports (take o.count o.heads) es) λ u.
    given (checked_statistics (take o.statistic_count o.statistics)) λ v.
    fitted (return_bytes (take o.count o.heads) es (take o.statistic_count o.statistics)) room)
    (refused 8))
    (refused 8))
    (refused 8)

-- error reports alone: a layout return without statistics
abbrev pub reports_only : ℕ → List ReportHead → Outgoing
reports_only count heads = record { count = count; heads = heads; statistic_count = 0; statistics = [] }

unfoldable pub reports_written : ℕ → List ReportHead → List ErrorEntry → ℕ → Answer (List ℕ)
reports_written count heads es room = return_written (reports_only count heads) es room

-- "Bytes of the output beyond the body stay"; a refusal "changes nothing lent"
unfoldable pub output_after : List ℕ → Answer (List ℕ) → List ℕ
output_after l (accepted bs) = bs ++ drop (length bs) l
output_after l (refused n) = l

-- ---- inside this crate

-- what is written of reports and of the bytes z after them, of which is known whether they may be written
unfoldable pub body_written : ℕ → List ReportHead → List ErrorEntry → Answer (Unit {0}) → List ℕ → ℕ → Answer (List ℕ)
body_written count heads es checked z room =
    pick (leb count most_reports)
    (pick (eqb (counts (take count heads)) (length es))
    (given (checked_reports (take count heads) es) λ u.
    given checked λ v.
    fitted (body_bytes (take count heads) es z) room)
    (refused 8))
    (refused 8)

-- n is the error count of a head: it has 32 bits, and the head's stateid has 16 bytes
pub record ErrorCount (h : ReportHead) (n : ℕ) : Type 0 where
  pub number : n ≡ h.errors
  pub bound : n ≤ 4294967295
  pub stateid : length h.stateid ≡ stateid_size

-- n is the sum of the error counts of heads, and each of their stateids has 16 bytes
pub record ErrorTotal (hs : List ReportHead) (n : ℕ) : Type 0 where
  pub sum : n ≡ counts hs
  pub stateids : stateids_whole hs ≡ true

-- m is the list l with a head's bytes stored at an offset, and the head's stateid has 16 bytes
pub record StoredHead (l : List ℕ) (at : ℕ) (h : ReportHead) (m : List ℕ) : Type 0 where
  pub bytes : m ≡ sets l at (head_bytes h)
  pub stateid : length h.stateid ≡ stateid_size
