-- `claims::other_starts_are_zero` is a law of `layout`.
use Rattle.layout.proofs.LayoutLaws.{start_unused}
use Rattle.claims.proofs.other_starts_are_zero.Goals as goal

pub returns : goal.returns
returns _ = start_unused
