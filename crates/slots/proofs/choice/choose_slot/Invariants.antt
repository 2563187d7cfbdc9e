use Rattle.slots.proofs.SearchLaws.{SoughtTo}
use Rattle.slots.specs.Slots.{is_set}
use Rattle.slots.proofs.choice.choose_slot.Given as goal

abbrev pub invariant-loop-i : goal.invariant-loop-i
invariant-loop-i l = SoughtTo l.body (is_set l.named) l.store l.i
