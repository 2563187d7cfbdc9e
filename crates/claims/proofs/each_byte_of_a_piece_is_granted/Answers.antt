-- `claims::each_byte_of_a_piece_is_granted` is the law of the same content beside it.
use Rattle.claims.proofs.EndToEnd.{bytes_by_events}
use Rattle.claims.proofs.each_byte_of_a_piece_is_granted.Goals as goal

pub returns : goal.returns
returns _ = bytes_by_events
