-- `claims::flags_are_at_the_end` is the law of the same content in `layout`.
use Rattle.layout.proofs.LayoutLaws.{flags_at_end_lem}
use Rattle.claims.proofs.flags_are_at_the_end.Goals as goal

pub returns : goal.returns
returns _ = flags_at_end_lem
