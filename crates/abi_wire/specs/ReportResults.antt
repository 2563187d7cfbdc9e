-- Error reports in plain numbers: 0 and the values, or the refusal's number and zeros.
use Rattle.std.specs.Prelude.{ℕ, List, length, replicate}
use Rattle.base.specs.Limits.{most_reports}
use Rattle.base.specs.Answer.{Answer, accepted, refused, given}
use Rattle.xdr.specs.Parsed.{Parsed, ok, fault}
use Rattle.report.specs.Reports.{Report}
use Rattle.base.specs.Results.{answer_of}
use Rattle.report.specs.Answers.{blank_head, heads_of, offsets_of}
use Rattle.report.specs.declared.ErrorItem.{ErrorItem}
use Rattle.report.specs.declared.ReportHead.{ReportHead}
use Rattle.report.specs.declared.body.ReportsRead.{ReportsRead}
use Rattle.abi_wire.specs.declared.reports.ReportsResult.{ReportsResult}
use Rattle.abi_wire.specs.declared.errors.ErrorResult.{ErrorResult}

-- how many reports there are, and in 8 entries each their heads and where the first error of each is
pub record ReportArrays : Type 0 where
  pub count : ℕ
  pub heads : List ReportHead
  pub offsets : List ℕ

-- of the reports of a body
abbrev pub arrays_in : Answer (List Report) → Answer ReportArrays
arrays_in a = given a λ rs. accepted (record { count = length rs; heads = heads_of rs; offsets = offsets_of rs })

-- of what the reader answers, whatever is beside a refusal
abbrev pub answer_of_reports : ReportsRead → Answer ReportArrays
answer_of_reports x =
    given (answer_of x.answer) λ n. accepted (record { count = n; heads = x.heads; offsets = x.errors_at })

unfoldable pub reports_result : Answer ReportArrays → ReportsResult
reports_result (accepted a) = record { refusal = 0; count = a.count; heads = a.heads; errors_at = a.offsets }
reports_result (refused n) = record {
  refusal = n;
  count = 0;
  heads = replicate most_reports blank_head;
  errors_at = replicate most_reports 0;
}

-- one error, whatever is after it
unfoldable pub error_result : Parsed ErrorItem → ErrorResult
error_result (ok e at) = record { refusal = 0; device = e.device; status = e.status; operation = e.operation }
error_result (fault n) = record { refusal = n; device = 0; status = 0; operation = 0 }
