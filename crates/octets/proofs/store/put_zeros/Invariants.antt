use Prim.Native.Nat.{◌+◌, ◌≤◌}
use lib.ListN.{length, replicate}
use lib.Seq.{sets}
use mathlib.Core.Path.{◌≡◌}
use Rattle.octets.proofs.store.put_zeros.Given as goal

abbrev pub invariant-loop-i : goal.invariant-loop-i
invariant-loop-i l = (l.at + l.n ≤ length l.fn.buf) × (l.buf ≡ sets l.fn.buf l.at (replicate l.i 0))
