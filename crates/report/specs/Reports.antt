-- The layout return, ff_layoutreturn4 of RFC 8435, 9.3: error reports of ff_ioerr4 (9.1.1) and device_error4 (RFC
-- 7862), then statistics.
use Rattle.std.specs.Prelude.{ℕ, ◌+◌, List, Bool, ◌&&◌, ◌||◌, not, eqb}
use Rattle.base.specs.Answer.{Answer, accepted, given, pick}
use Rattle.base.specs.Limits.{device_id_size, most_errors, most_reports, stateid_size}
use Rattle.octets.specs.Numbers.{bytes_from}
use Rattle.xdr.specs.Parsed.{Parsed, ok, fault, then, many_at, whole}
use Rattle.xdr.specs.Items.{num_at, count_at, bytes_at, range_at}
use Rattle.statistics.specs.Statistics.{statistics_at}
use Rattle.statistics.specs.declared.Statistic.{Statistic}
use Rattle.report.specs.declared.ErrorItem.{ErrorItem}
use Rattle.report.specs.declared.ReportHead.{ReportHead}

-- "an error's operation is not 5, 25 or 38 (COMMIT, READ, WRITE), or its status is 0": 27; this is the contrary
unfoldable pub error_fits : ℕ → ℕ → Bool
error_fits status operation = not (eqb status 0) && (eqb operation 5 || (eqb operation 25 || eqb operation 38))

-- where status and operation are in an error, from its start: "device id, status, operation"
abbrev pub error_status_offset : ℕ
error_status_offset = device_id_size

abbrev pub error_operation_offset : ℕ
error_operation_offset = error_status_offset + 4

-- "errors of device id, status, operation; an error is judged when all three are read"
unfoldable pub error_at : List ℕ → ℕ → Parsed ErrorItem
error_at s at =
    then (bytes_at device_id_size s at) λ device p1.
    then (num_at 4 s p1) λ status p2.
    then (num_at 4 s p2) λ operation p3.
    pick (error_fits status operation)
    (ok (record { device = device.start; status = status; operation = operation }) p3)
    (fault 27)

-- "offset, length (the pair obeys the range rule, judged here), stateid, error count (1 to 16)"
unfoldable pub report_head_at : List ℕ → ℕ → Parsed ReportHead
report_head_at s at =
    then (range_at s at) λ range p1.
    then (bytes_at stateid_size s p1) λ stateid p2.
    then (count_at 1 most_errors s p2) λ n p3.
    ok (record {
      offset = range.offset;
      length = range.length;
      stateid = bytes_from stateid_size s stateid.start;
      errors = n;
    }) p3

-- a report that was read: what is before its errors, and the offset of the first of them
pub record Report : Type 0 where
  pub head : ReportHead
  pub errors_offset : ℕ

-- "A report: offset, length .., stateid, error count (1 to 16), errors of ..": each error is judged, and the
-- offset of the first is kept
unfoldable pub report_at : List ℕ → ℕ → Parsed Report
report_at s at =
    then (report_head_at s at) λ h p.
    then (many_at error_at h.errors s p) λ es q.
    ok (record { head = h; errors_offset = p }) q

-- "Report count (0 to 8), reports"
unfoldable pub reports_at : List ℕ → ℕ → Parsed (List Report)
reports_at s at = then (count_at 0 most_reports s at) λ n p. many_at report_at n s p

-- both halves of the body
pub record LayoutReturn : Type 0 where
  pub reports : List Report
  pub statistics : List Statistic

-- "Report count (0 to 8), reports, then a statistics count (0 to 8, else 8) and as many records of statistics. ..
-- Nothing may follow the body." (C-13)
unfoldable pub return_body : List ℕ → Answer LayoutReturn
return_body s =
    whole s
    (then (reports_at s 0) λ reports p.
    then (statistics_at s p) λ statistics q.
    ok (record { reports = reports; statistics = statistics }) q)

-- each half alone; the whole body is judged
unfoldable pub report_body : List ℕ → Answer (List Report)
report_body s = given (return_body s) λ r. accepted r.reports

unfoldable pub statistics_body : List ℕ → Answer (List Statistic)
statistics_body s = given (return_body s) λ r. accepted r.statistics
