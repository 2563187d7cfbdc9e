-- `claims::no_write_after_a_recall` is the law of the same content beside it.
use Rattle.claims.proofs.EndToEnd.{write_after_recall}
use Rattle.claims.proofs.no_write_after_a_recall.Goals as goal

pub returns : goal.returns
returns _ = write_after_recall
