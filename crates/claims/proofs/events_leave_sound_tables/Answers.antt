-- `claims::events_leave_sound_tables` is the law of the same content in `refinement`.
use Rattle.refinement.proofs.Unchanged.{sound_after}
use Rattle.claims.proofs.events_leave_sound_tables.Goals as goal

pub returns : goal.returns
returns _ = sound_after
