use Rattle.octets.specs.Numbers.{same_bytes}
use lib.ListN.{length, take}
use mathlib.Core.Path.{◌≡◌}
use Rattle.octets.proofs.compare.same_run.Given as goal

abbrev pub invariant-loop-x : goal.invariant-loop-x
invariant-loop-x l = l.z ≡ same_bytes (take (length l.yielded) l.s) (take (length l.yielded) l.t)
