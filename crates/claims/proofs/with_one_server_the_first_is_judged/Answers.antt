-- `claims::with_one_server_the_first_is_judged` is what `route` says of the mirrors of a piece, whose stripe is then 0.
use Prim.Native.Nat.{ℕ}
use mathlib.Core.Path.{ap, ◌∙◌}
use Rattle.route.specs.Routes.{mirrors_named}
use Rattle.route.proofs.PieceLaws.{mirrors_by_stripe, stripe_of_one}
use Rattle.store.specs.Store.{body_in, slot_at}
use Rattle.claims.proofs.with_one_server_the_first_is_judged.Goals as goal

pub returns : goal.returns
returns _ =
    λ write t store offset len p l e h one.
    mirrors_by_stripe write t store offset len p e l h
    ∙ ap (λ (k : ℕ). mirrors_named write (body_in (slot_at store p.slot.0)) l k) (stripe_of_one write t store offset len p e l h one)
