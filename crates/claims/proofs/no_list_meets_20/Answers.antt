-- `claims::no_list_meets_20` is the law of the same content beside it.
use Rattle.claims.proofs.EventRefusals.{never_20}
use Rattle.claims.proofs.no_list_meets_20.Goals as goal

pub returns : goal.returns
returns _ = never_20
