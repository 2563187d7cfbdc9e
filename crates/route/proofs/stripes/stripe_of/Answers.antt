-- `route::stripes::stripe_of` meets its contract: a remainder by the servers is a stripe number.
use Prim.Native.Nat.{ℕ}
use Rattle.route.proofs.StripeLaws.{one_stripe, stripe_by_unit}
use mathlib.Core.Path.{ap}
use Rattle.route.proofs.stripes.stripe_of.Goals as goal

pub returns-then-servers-le1 : goal.returns-then-servers-le1
returns-then-servers-le1 c = ap (λ (k : ℕ). record { 0 = k }) (one_stripe c.args.unit c.args.servers c.args.offset c.if-servers-le1.true)

pub returns : goal.returns
returns c = ap (λ (k : ℕ). record { 0 = k }) (stripe_by_unit c.args.unit c.args.servers c.args.offset _ c.if-servers-le1.false c.unit_index.ensures)
