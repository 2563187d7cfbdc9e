-- `claims::mirrors_are_judged_by_their_servers` joins what `server` says of a data server that is read and what `bytes` says of a number.
use Prim.Native.Nat.{◌+◌}
use mathlib.Core.Path.{sym, ◌∙◌}
use native.Mathlib.Omega.{arith}
use Rattle.octets.proofs.NumberLaws.{be_there}
use Rattle.layout.specs.Layouts.{start_at}
use Rattle.route.specs.Mirrors.{efficiency_of}
use Rattle.server.specs.Servers.{server_efficiency_offset}
use Rattle.server.proofs.ServerLaws.{server_read}
use Rattle.claims.proofs.mirrors_are_judged_by_their_servers.Goals as goal

pub returns : goal.returns
unfolding efficiency_of
returns c =
    λ s starts m k next v e.
    let r = server_read s (start_at starts m k) v next e in
    be_there 4 s (start_at starts m k + server_efficiency_offset) (omega (arith, r.inside)) ∙ sym r.efficiency
