-- `claims::numbers_read_are_written` is a law of `numbers`.
use Rattle.octets.proofs.NumberLaws.{be_back}
use Rattle.claims.proofs.numbers_read_are_written.Goals as goal

pub returns : goal.returns
returns _ = be_back
