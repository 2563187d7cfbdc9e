-- `claims::exported_events_are_the_events` is the law of the same content in `basilothyn`.
use Rattle.basilothyn.proofs.RecordDemand.{on_record}
use Rattle.claims.proofs.exported_events_are_the_events.Goals as goal

pub returns : goal.returns
returns _ = on_record
