use Rattle.base.proofs.BestLaws.{Picked}
use Rattle.route.specs.Mirrors.{efficiency_of}
use Rattle.route.proofs.mirrors.best_mirror.Given as goal

abbrev pub invariant-loop-m : goal.invariant-loop-m
invariant-loop-m l = Picked (efficiency_of l.body l.starts l.stripe.0) l.m l.best l.highest
