-- `claims::pieces_lie_in_granted_segments` is the law of the same content in `route`.
use Rattle.route.proofs.PieceLaws.{piece_in_segment}
use Rattle.claims.proofs.pieces_lie_in_granted_segments.Goals as goal

pub returns : goal.returns
returns _ =
    λ write t store offset len p e.
    let h = piece_in_segment write t store offset len p e in
    record {
      mode = h.mode;
      named = h.iomode;
      index = h.index;
      there = h.in_list;
      first = h.first;
      last = h.last;
      right = h.right;
      ends = h.ends;
      in_rw = h.in_rw;
    }
