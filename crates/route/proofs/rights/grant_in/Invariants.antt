use Rattle.std.proofs.Common.{◌≡◌, drop}
use Rattle.route.specs.Routes.{grant_in}
use Rattle.route.proofs.rights.grant_in.Given as goal

abbrev pub invariant-loop-s : goal.invariant-loop-s
invariant-loop-s l = grant_in l.iomode l.s-items l.x ≡ grant_in l.iomode (drop l.s-index l.s-items) l.x
