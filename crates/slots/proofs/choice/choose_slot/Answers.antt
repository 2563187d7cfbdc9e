-- `slots::choice::choose_slot` meets its contract: no slot before the one looked at holds the body.
use Rattle.slots.proofs.SearchLaws.{sought_here, sought_next, sought_none}
use mathlib.Core.Path.{sym, ◌∙◌}
use native.Mathlib.Omega.{arith}
use Rattle.slots.proofs.choice.choose_slot.Goals as goal

pub returns-then-holds_body : goal.returns-then-holds_body
returns-then-holds_body c =
    let l = c.loop-i in
    sought_here _ _ _ l.i l.invariant (omega arith) (sym c.holds_body.ensures ∙ c.if-holds_body.true)

pub loop-i-preserved : goal.loop-i-preserved
loop-i-preserved c =
    let l = c.loop-i in
    sought_next _ _ _ l.i l.invariant (omega arith) (sym c.holds_body.ensures ∙ c.if-holds_body.false)

pub returns : goal.returns
returns c = c.unnamed.ensures _ ∙ sought_none _ _ _ _ c.loop-i.invariant (omega arith)
