-- `claims::returns_written_are_read` is a law of `report`.
use Rattle.report.proofs.ReturnRoundTrip.{reading_what_was_written}
use Rattle.claims.proofs.returns_written_are_read.Goals as goal

pub returns : goal.returns
returns _ = reading_what_was_written
