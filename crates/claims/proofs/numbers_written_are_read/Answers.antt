-- `claims::numbers_written_are_read` is a law of `numbers`.
use Rattle.octets.proofs.NumberLaws.{be_round}
use Rattle.claims.proofs.numbers_written_are_read.Goals as goal

pub returns : goal.returns
returns _ = be_round
