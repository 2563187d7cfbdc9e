-- `claims::events_refuse_as_listed` is one law for each event.
use Rattle.claims.proofs.EventRefusals.{grant_answers_lem, recall_answers, return_answers, revoke_answers}
use Rattle.claims.proofs.events_refuse_as_listed.Goals as goal

pub returns : goal.returns
returns _ = (grant_answers_lem, return_answers, recall_answers, revoke_answers)
