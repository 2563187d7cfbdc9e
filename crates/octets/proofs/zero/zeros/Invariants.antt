use Prim.Native.Nat.{◌*◌}
use Rattle.octets.specs.Numbers.{all_zero}
use lib.ListN.{drop}
use mathlib.Core.Path.{◌≡◌}
use Rattle.octets.proofs.zero.zeros.Given as goal

abbrev pub invariant-loop-block : goal.invariant-loop-block
invariant-loop-block l = all_zero l.s ≡ all_zero (drop (l.block-index * 256) l.s)
