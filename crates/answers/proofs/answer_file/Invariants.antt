-- Each case takes the offset further on, and the loop ends at a bound.
use Rattle.std.proofs.Common.{◌-◌}
use Rattle.answers.proofs.answer_file.Given as goal

abbrev pub decreases-loop-offset : goal.decreases-loop-offset
decreases-loop-offset g l = 9223372036854775808 - l.offset
