-- `claims::mirrors_are_named_by_efficiency` joins what `route` says of a piece's mirrors and of the mirror that is picked.
use Prim.Native.Nat.{◌-◌}
use native.Mathlib.Omega.{arith}
use mathlib.Core.Path.{◌∙◌}
use Rattle.layout.proofs.LayoutLaws.{accepted_limits}
use Rattle.base.specs.Best.{best}
use Rattle.base.proofs.BestLaws.{best_is_highest, best_is_lowest, best_is_one}
use Rattle.route.specs.Mirrors.{best_mirror, efficiency_of}
use Rattle.route.specs.Routes.{layout_in, stripe_in}
use Rattle.route.proofs.MirrorLaws.{one_named}
use Rattle.route.proofs.PieceLaws.{its_mirrors}
use Rattle.store.specs.Store.{body_in, slot_at}
use Rattle.claims.proofs.mirrors_are_named_by_efficiency.Goals as goal

pub returns : goal.returns
unfolding layout_in best_mirror
returns c =
    λ write t store offset len p l e h one.
    let body = body_in (slot_at store p.slot.0) in
    let named = its_mirrors write t store offset len p e l h in
    let efficiency = efficiency_of body l.starts (stripe_in l offset) in
    let n = l.summary.mirrors in
    let some = (accepted_limits body l h).mirrors_some in (
      best efficiency (n - 1),
      named ∙ one_named write body l (stripe_in l offset) one,
      record {
        below = omega (arith, best_is_one efficiency (n - 1), some);
        highest = λ m k. best_is_highest efficiency (n - 1) m (omega (arith, k, some));
        lowest = λ m k. best_is_lowest efficiency (n - 1) m k;
      },
    )
