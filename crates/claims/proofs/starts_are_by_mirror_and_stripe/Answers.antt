-- `claims::starts_are_by_mirror_and_stripe` is a law of `layout`.
use Rattle.layout.proofs.LayoutLaws.{starts_at}
use Rattle.claims.proofs.starts_are_by_mirror_and_stripe.Goals as goal

pub returns : goal.returns
returns _ = starts_at
