-- `soundness::distinct::all_distinct` meets its contract. The loop's invariant: no body of a slot passed is in a later one, so what is left decides.
use Rattle.model.specs.SlotsShown.{slots_in}
use Rattle.soundness.proofs.ValidSlotLaws.{distinct_next, distinct_none}
use mathlib.Core.Path.{sym, ◌∙◌}
use native.Mathlib.Omega.{arith}
use Rattle.soundness.proofs.distinct.all_distinct.Goals as goal

pub returns-then-is_held_again : goal.returns-then-is_held_again
unfolding slots_in
returns-then-is_held_again c =
    let l = c.loop-i in
    λ t e. rw (l.invariant t e, distinct_next t c.args.store.now 8 l.i (omega arith), sym (c.is_held_again.ensures t e) ∙ c.if-is_held_again.true)

pub loop-i-preserved : goal.loop-i-preserved
loop-i-preserved c =
    let l = c.loop-i in
    λ t e. rw (l.invariant t e, distinct_next t c.args.store.now 8 l.i (omega arith), sym (c.is_held_again.ensures t e) ∙ c.if-is_held_again.false)

pub returns : goal.returns
unfolding slots_in
returns c =
    let l = c.loop-i in
    λ t e. sym (l.invariant t e ∙ distinct_none t c.args.store.now 8 l.i (omega arith))
