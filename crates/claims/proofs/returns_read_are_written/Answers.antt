-- `claims::returns_read_are_written` is a law of `report`.
use Rattle.report.proofs.ReturnRoundTrip.{writing_what_was_read}
use Rattle.claims.proofs.returns_read_are_written.Goals as goal

pub returns : goal.returns
returns _ = writing_what_was_read
