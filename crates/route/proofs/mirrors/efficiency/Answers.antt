-- `route::mirrors::efficiency` meets its contract: the number after the start that `start_of` gives.
use Prim.Native.Nat.{ℕ, ◌+◌}
use Rattle.octets.specs.Numbers.{be_at}
use Rattle.route.specs.Mirrors.{efficiency_of}
use Rattle.server.specs.Servers.{server_efficiency_offset}
use mathlib.Core.Path.{ap, ◌∙◌}
use Rattle.route.proofs.mirrors.efficiency.Goals as goal

pub returns : goal.returns
unfolding efficiency_of
returns c = c.be4.ensures ∙ ap (λ (k : ℕ). be_at 4 c.args.body.now (k + server_efficiency_offset)) c.start_of-start.ensures
