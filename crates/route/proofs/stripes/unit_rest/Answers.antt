-- `route::stripes::unit_rest` meets its contract: a remainder is below its divisor.
use Rattle.route.specs.Stripes.{unit_rest}
use mathlib.Core.Path.{refl}
use Rattle.route.proofs.stripes.unit_rest.Goals as goal

pub returns : goal.returns
unfolding unit_rest
returns _ = refl
