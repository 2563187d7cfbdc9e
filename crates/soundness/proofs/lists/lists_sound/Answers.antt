-- `soundness::lists::lists_sound` meets its contract. The loop's invariant: the lists passed are sound.
use Rattle.segments.proofs.ModeLaws.{both_are}
use mathlib.Core.Path.{sym}
use native.Mathlib.Omega.{arith}
use Rattle.soundness.proofs.lists.lists_sound.Invariants.{test}
use Rattle.soundness.proofs.lists.lists_sound.Goals as goal

pub returns : goal.returns
returns c = sym (both_are (test c.args.t) c.loop-i.i c.loop-i.invariant (omega arith))
