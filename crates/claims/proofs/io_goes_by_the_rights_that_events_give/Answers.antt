-- `claims::io_goes_by_the_rights_that_events_give` is the law of the same content beside it.
use Rattle.claims.proofs.EndToEnd.{io_by_events}
use Rattle.claims.proofs.io_goes_by_the_rights_that_events_give.Goals as goal

pub returns : goal.returns
returns _ = io_by_events
