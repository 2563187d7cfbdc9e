-- `claims::table_examples_hold` is the law of the same content in `model`.
use Rattle.model.proofs.Examples.{cases_hold}
use Rattle.claims.proofs.table_examples_hold.Goals as goal

pub returns : goal.returns
returns _ = cases_hold
