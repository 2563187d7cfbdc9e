-- `route::request::piece_at` meets its contract: stripe, length and mirrors, each from its callee.
use Rattle.route.proofs.RouteLaws.{piece_is}
use Rattle.route.proofs.request.piece_at.Goals as goal

pub returns : goal.returns
returns c =
    let a = c.args in
    piece_is a.write a.store.now a.offset a.len _ _ _ _ _ _ c.stripe_of-stripe.ensures c.piece_length-piece.ensures c.slot_bytes.ensures c.slot_body.ensures c.mirrors_named-mirrors.ensures
