-- `claims::refused_events_change_nothing` is the law of the same content in `refinement`.
use Rattle.refinement.proofs.Unchanged.{refusal_keeps}
use Rattle.claims.proofs.refused_events_change_nothing.Goals as goal

pub returns : goal.returns
returns _ = λ e t store. refusal_keeps t store e
