-- `claims::pieces_lie_in_request_and_unit` is the law of the same content in `route`.
use Rattle.route.proofs.PieceLaws.{piece_in_request, piece_in_unit}
use Rattle.claims.proofs.pieces_lie_in_request_and_unit.Goals as goal

pub returns : goal.returns
returns _ =
    λ write t store offset len p e.
    let h = piece_in_request write t store offset len p e in
    (h.0, h.1, h.2, λ l k n. piece_in_unit write t store offset len p e l k n)
