use Rattle.std.proofs.Common.{◌≡◌, drop}
use Rattle.binding.specs.Bindings.{chosen_from}
use Rattle.binding.proofs.choice.choose.Given as goal

abbrev pub invariant-loop-i : goal.invariant-loop-i
invariant-loop-i l = chosen_from l.set 0 l.versions ≡ chosen_from l.set l.i (drop l.i l.versions)
