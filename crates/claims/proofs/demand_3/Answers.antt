-- `claims::demand_3` is the law of the same content in `refinement`.
use Rattle.refinement.proofs.Demand.{calls_meet_demand_3}
use Rattle.claims.proofs.demand_3.Goals as goal

pub returns : goal.returns
returns _ = calls_meet_demand_3
