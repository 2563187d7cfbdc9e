-- `route::stripes::piece_length` meets its contract: one more than the shortest of lengths less one is the shortest of the lengths.
use Prim.Native.Nat.{◌≤◌}
use Rattle.route.proofs.StripeLaws.{piece_in_one, piece_in_many, rest_some}
use Rattle.route.specs.Stripes.{unit_rest}
use mathlib.Core.Path.{◌≡◌}
use native.Mathlib.Omega.{arith}
use Rattle.route.proofs.stripes.piece_length.Goals as goal

pub returns-then-servers-le1 : goal.returns-then-servers-le1
returns-then-servers-le1 c = piece_in_one c.args.unit c.args.servers c.args.last c.args.offset c.args.len _ c.requires.0 c.if-servers-le1.true c.min-held.ensures

pub overflow_sub-rest : goal.overflow_sub-rest
overflow_sub-rest c =
    let r : 1 ≤ unit_rest c.args.unit c.args.offset = rest_some c.args.unit c.args.offset (c.requires.2 c.if-servers-le1.false) in
    let e : c.unit_rest-rest.result ≡ unit_rest c.args.unit c.args.offset = c.unit_rest-rest.ensures in
    omega arith

pub returns : goal.returns
returns c = piece_in_many c.args.unit c.args.servers c.args.last c.args.offset c.args.len _ _ _ c.requires.0 c.requires.2 c.if-servers-le1.false c.min-held.ensures c.unit_rest-rest.ensures c.min.ensures
