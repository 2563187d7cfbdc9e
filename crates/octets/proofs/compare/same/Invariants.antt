use Prim.Native.Nat.{◌*◌}
use Rattle.octets.specs.Numbers.{same_bytes}
use lib.ListN.{length, drop}
use mathlib.Core.Path.{◌≡◌}
use Rattle.octets.proofs.compare.same.Given as goal

abbrev pub invariant-loop-block : goal.invariant-loop-block
invariant-loop-block l =
    (length l.s ≡ length l.t) × (same_bytes l.s l.t ≡ same_bytes (drop (length l.yielded * 256) l.s) (drop (length l.yielded * 256) l.t))
