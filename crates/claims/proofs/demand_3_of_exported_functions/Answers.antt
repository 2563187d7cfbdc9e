-- `claims::demand_3_of_exported_functions` is two laws of `basilothyn`.
use Rattle.basilothyn.proofs.RecordDemand.{record_left, records_meet_demand_3}
use Rattle.claims.proofs.demand_3_of_exported_functions.Goals as goal

pub returns : goal.returns
returns _ = (records_meet_demand_3, record_left)
