-- `claims::exported_lookups_are_the_lookups` is the law of the same content in `basilothyn`.
use Rattle.basilothyn.proofs.RecordDemand.{on_record_routed}
use Rattle.claims.proofs.exported_lookups_are_the_lookups.Goals as goal

pub returns : goal.returns
returns _ = on_record_routed
