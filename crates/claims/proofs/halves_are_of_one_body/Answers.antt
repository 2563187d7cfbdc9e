-- `claims::halves_are_of_one_body` is four laws of `report`.
use Rattle.report.proofs.ReportLaws.{reports_of, reports_of_refused, statistics_of, statistics_of_refused}
use Rattle.claims.proofs.halves_are_of_one_body.Goals as goal

pub returns : goal.returns
returns _ = (λ s r e. (reports_of s r e, statistics_of s r e), λ s n e. (reports_of_refused s n e, statistics_of_refused s n e))
