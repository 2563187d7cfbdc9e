-- `claims::writes_without_flag_8_name_all_mirrors` is what `route` says of the mirrors of a piece, of such a write.
use mathlib.Core.Path.{ap, ◌∙◌}
use mathlib.Core.Bool.{true, not}
use Rattle.route.specs.Routes.{stripe_in}
use Rattle.route.proofs.MirrorLaws.{all_named}
use Rattle.route.proofs.PieceLaws.{its_mirrors}
use Rattle.store.specs.Store.{body_in, slot_at}
use Rattle.claims.proofs.writes_without_flag_8_name_all_mirrors.Goals as goal

pub returns : goal.returns
returns _ =
    λ t store offset len p l e h f.
    its_mirrors true t store offset len p e l h ∙ all_named true (body_in (slot_at store p.slot.0)) l (stripe_in l offset) (ap not f)
