-- `claims::reads_go_where_writes_go` is the law of the same content beside it.
use Rattle.claims.proofs.RightsAnswered.{read_as_written}
use Rattle.claims.proofs.reads_go_where_writes_go.Goals as goal

pub returns : goal.returns
returns _ = read_as_written
