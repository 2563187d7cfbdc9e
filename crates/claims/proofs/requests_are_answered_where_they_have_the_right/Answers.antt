-- `claims::requests_are_answered_where_they_have_the_right` is the three laws of the same content beside it.
use Rattle.claims.proofs.RightsAnswered.{out_of_order, with_right, without_right}
use Rattle.claims.proofs.requests_are_answered_where_they_have_the_right.Goals as goal

pub returns : goal.returns
returns _ = (
  out_of_order,
  λ write t store offset len last s e. (with_right write t store offset len last s e, without_right write t store offset len last s e),
)
