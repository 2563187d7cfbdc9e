-- `claims::worked_examples_hold` is the law of the same content in `examples`.
use Rattle.examples.proofs.ExampleLaws.{examples_hold}
use Rattle.claims.proofs.worked_examples_hold.Goals as goal

pub returns : goal.returns
returns _ = examples_hold
