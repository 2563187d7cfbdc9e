-- `claims::refused_calls_keep_records` is the law of the same content in `basilothyn`.
use Rattle.basilothyn.proofs.RecordUnchanged.{refused_call_keeps}
use Rattle.claims.proofs.refused_calls_keep_records.Goals as goal

pub returns : goal.returns
returns _ = λ e given store. refused_call_keeps e given store
