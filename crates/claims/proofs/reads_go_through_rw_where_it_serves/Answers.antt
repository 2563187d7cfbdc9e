-- `claims::reads_go_through_rw_where_it_serves` is the two laws of the same content beside it.
use Rattle.claims.proofs.RightsAnswered.{read_by_rw, read_by_read}
use Rattle.claims.proofs.reads_go_through_rw_where_it_serves.Goals as goal

pub returns : goal.returns
returns _ = λ t store offset len p e. (read_by_rw t store offset len p e, read_by_read t store offset len p e)
