-- `claims::returns_have_their_sizes` is a law of sizes, and two cases of it.
use Rattle.claims.proofs.BodySizes.{return_size}
use Rattle.report.specs.Writing.{counts}
use Rattle.statistics.specs.StatisticBytes.{statistics_bytes}
use native.Mathlib.Omega.{arith}
use Rattle.claims.proofs.returns_have_their_sizes.Goals as goal

pub returns : goal.returns
unfolding counts statistics_bytes
returns c = (
  λ s r b e. let z = return_size s r b e in (z.exact, z.each, z.most),
  λ s rs b e. let z = return_size s _ b e in omega (arith, z.exact, z.reports),
  λ s x b e k. omega (arith, k, (return_size s _ b e).exact),
)
