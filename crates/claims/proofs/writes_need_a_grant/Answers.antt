-- `claims::writes_need_a_grant` is the law of the same content in `route`.
use Rattle.route.proofs.PieceLaws.{write_needs_a_grant}
use Rattle.claims.proofs.writes_need_a_grant.Goals as goal

pub returns : goal.returns
returns _ = write_needs_a_grant
