-- `claims::whole_file_events_always_fit` is the law of the same content in `refinement`.
use Rattle.refinement.proofs.WholeFile.{whole_recall, whole_return, whole_revoke}
use Rattle.claims.proofs.whole_file_events_always_fit.Goals as goal

pub returns : goal.returns
returns _ = λ t store read rw_list number. (whole_return t store read rw_list number, whole_recall t store read rw_list number, whole_revoke t store read rw_list)
