-- What the answers say: the values, or the number; and the arrays beside them.
use Rattle.std.specs.Prelude.{ℕ, List, Result, Ok, Err, ◌++◌, map, length, replicate}
use Rattle.base.specs.Limits.{most_reports, most_statistics, stateid_size}
use Rattle.base.specs.Lists.{padded}
use Rattle.base.specs.Refusals.{fault_number}
use Rattle.base.specs.declared.refusal.Fault.{Fault}
use Rattle.octets.specs.Numbers.{bytes_from}
use Rattle.xdr.specs.Parsed.{Parsed, ok, fault, then}
use Rattle.xdr.specs.declared.Cursor.{Cursor}
use Rattle.statistics.specs.Statistics.{blank_statistic}
use Rattle.statistics.specs.declared.Statistic.{Statistic}
use Rattle.report.specs.Reports.{Report}
use Rattle.report.specs.declared.ReportHead.{ReportHead}
use Rattle.report.specs.declared.head.HeadItem.{HeadItem}
use Rattle.report.specs.declared.head.ReportItem.{ReportItem}

-- a head whose stateid is in the bytes s
abbrev pub head_from : List ℕ → HeadItem → ReportHead
head_from s h = record {
  offset = h.offset;
  length = h.length;
  stateid = bytes_from stateid_size s h.stateid;
  errors = h.errors;
}

abbrev pub parsed_of_report_head : List ℕ → Result (HeadItem × Cursor) Fault → Parsed ReportHead
parsed_of_report_head s (Ok (h, c)) = ok (head_from s h) c.at
parsed_of_report_head s (Err e) = fault (fault_number e)

-- a report whose head has its stateid in the bytes s
abbrev pub report_from : List ℕ → ReportItem → Report
report_from s r = record { head = head_from s r.head; errors_offset = r.errors_at }

abbrev pub parsed_of_report : List ℕ → Result (ReportItem × Cursor) Fault → Parsed Report
parsed_of_report s (Ok (r, c)) = ok (report_from s r) c.at
parsed_of_report s (Err e) = fault (fault_number e)

-- ---- the arrays of 8 entries

abbrev pub blank_head : ReportHead
blank_head = record { offset = 0; length = 0; stateid = replicate stateid_size 0; errors = 0 }

-- the heads, blank past the list
abbrev pub heads_of : List Report → List ReportHead
heads_of rs = padded most_reports blank_head (map (λ (r : Report). r.head) rs)

-- where the first error of each report is
abbrev pub offsets_of : List Report → List ℕ
offsets_of rs = padded most_reports 0 (map (λ (r : Report). r.errors_offset) rs)

-- the records of statistics in 8 entries, blank past the list
abbrev pub statistic_entries : List Statistic → List Statistic
statistic_entries rs = padded most_statistics blank_statistic rs

-- the count and both arrays, where the reports after the ones already read were read
unfoldable pub arrays_from : List Report → Parsed (List Report) → Parsed (ℕ × (List ReportHead × List ℕ))
arrays_from done x = then x λ rs p. ok (length (done ++ rs), (heads_of (done ++ rs), offsets_of (done ++ rs))) p

abbrev pub parsed_of_arrays : Result (ℕ × Cursor) Fault → List ReportHead → List ℕ
    → Parsed (ℕ × (List ReportHead × List ℕ))
parsed_of_arrays (Ok (n, c)) heads offsets = ok (n, (heads, offsets)) c.at
parsed_of_arrays (Err e) heads offsets = fault (fault_number e)
