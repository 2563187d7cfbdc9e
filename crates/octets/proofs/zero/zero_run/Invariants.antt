use Rattle.octets.specs.Numbers.{all_zero}
use lib.Dec.{eqb}
use lib.ListN.{take}
use mathlib.Core.Path.{◌≡◌}
use Rattle.octets.proofs.zero.zero_run.Given as goal

abbrev pub invariant-loop-byte : goal.invariant-loop-byte
invariant-loop-byte l = eqb l.bits 0 ≡ all_zero (take l.byte-index l.s)
