use Rattle.std.proofs.Common.{◌≡◌, ◌&&◌, drop}
use Rattle.soundness.specs.Sound.{all_blank, is_in_order}
use Rattle.soundness.proofs.lists.segments_sound.Given as goal

abbrev pub invariant-loop-k : goal.invariant-loop-k
invariant-loop-k l = is_in_order l.all ≡ is_in_order (drop l.k l.all)

abbrev pub invariant-loop-s : goal.invariant-loop-s
invariant-loop-s l = all_blank l.s-items ≡ (l.blank && all_blank (drop l.s-index l.s-items))
