-- `claims::requests_refuse_as_listed` is the law of the same content in `route`.
use Rattle.route.proofs.PieceLaws.{refusals_are_listed}
use Rattle.claims.proofs.requests_refuse_as_listed.Goals as goal

pub returns : goal.returns
returns _ = refusals_are_listed
