use Rattle.soundness.specs.Sound.{segments_sound}
use Rattle.segments.proofs.ModeLaws.{PassedTo}
use Rattle.segments.specs.Segments.{Mode, segments_for}
use Rattle.segments.specs.declared.Table.{Table}
use mathlib.Core.Bool.{Bool, true}
use Rattle.soundness.proofs.lists.lists_sound.Given as goal

abbrev pub test : Table → Mode → Bool
test t m = segments_sound (segments_for t m)

abbrev pub invariant-loop-i : goal.invariant-loop-i
invariant-loop-i l = PassedTo (test l.t) true l.i
