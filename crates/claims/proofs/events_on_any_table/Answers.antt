-- `claims::events_on_any_table` is the law of the same content in `refinement`.
use Rattle.refinement.proofs.AnyTable.{sound_step}
use Rattle.claims.proofs.events_on_any_table.Goals as goal

pub returns : goal.returns
returns _ = sound_step
