-- `claims::nothing_is_eight_zeros` is two laws of `report`.
use Rattle.report.proofs.ReturnRoundTrip.{nothing_read, nothing_written}
use Rattle.claims.proofs.nothing_is_eight_zeros.Goals as goal

pub returns : goal.returns
returns _ = (nothing_written, nothing_read)
