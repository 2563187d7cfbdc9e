-- `report::body::read_reports` meets its contract: after a refusal every entry is blank.
use Rattle.report.proofs.ReportLaws.{answer_refused, length_refused}
use Rattle.report.proofs.body.read_reports.Goals as goal

pub returns-in-Err : goal.returns-in-Err
returns-in-Err c = answer_refused _ _ _ _ _ (length_refused _ _ c.in-Err.ensures.0) c.refused.ensures
