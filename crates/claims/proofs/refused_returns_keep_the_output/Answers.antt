-- `claims::refused_returns_keep_the_output` is a law of `report`.
use Rattle.report.proofs.StoringLaws.{written_refused}
use mathlib.Core.Path.{sym}
use Rattle.claims.proofs.refused_returns_keep_the_output.Goals as goal

pub returns : goal.returns
returns _ = λ o errors out n e. sym (written_refused out _ n e).1
