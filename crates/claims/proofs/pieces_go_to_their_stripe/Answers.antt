-- `claims::pieces_go_to_their_stripe` is the laws of the same content in `route`.
use Rattle.route.proofs.PieceLaws.{mirrors_below, stripe_below, stripe_of_each, stripe_of_one}
use Rattle.claims.proofs.pieces_go_to_their_stripe.Goals as goal

pub returns : goal.returns
returns _ =
    λ write t store offset len p l e h.
    let m = mirrors_below write t store offset len p e l h in (
      stripe_of_one write t store offset len p e l h,
      stripe_of_each write t store offset len p e l h,
      stripe_below write t store offset len p e l h,
      m.0,
      m.1,
    )
