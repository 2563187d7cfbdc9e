-- `soundness::distinct::is_held_from` meets its contract. The loop's invariant: no slot passed holds the body, so what is left decides.
use Rattle.lookup.proofs.NamedLaws.{named_here}
use Rattle.soundness.proofs.ValidSlotLaws.{held_next, held_none}
use mathlib.Core.Path.{sym, ◌∙◌}
use native.Mathlib.Omega.{arith}
use Rattle.soundness.proofs.distinct.is_held_from.Goals as goal

pub returns-then-holds_body : goal.returns-then-holds_body
returns-then-holds_body c =
    let l = c.loop-j in
    let a = c.args in
    λ t e. rw (l.invariant t e, held_next t a.store.now a.body.now 8 l.j (omega arith), named_here t _ l.j e (omega arith), sym c.holds_body.ensures ∙ c.if-holds_body.true)

pub loop-j-preserved : goal.loop-j-preserved
loop-j-preserved c =
    let l = c.loop-j in
    let a = c.args in
    λ t e. rw (l.invariant t e, held_next t a.store.now a.body.now 8 l.j (omega arith), named_here t _ l.j e (omega arith), sym c.holds_body.ensures ∙ c.if-holds_body.false)

pub returns : goal.returns
returns c =
    let l = c.loop-j in
    let a = c.args in
    λ t e. sym (l.invariant t e ∙ held_none t a.store.now a.body.now 8 l.j (omega arith))
