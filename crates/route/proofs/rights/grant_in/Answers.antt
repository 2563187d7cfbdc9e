-- `route::rights::grant_in` meets its contract. The loop's invariant: no segment passed holds the byte, so what is left decides.
use Rattle.std.proofs.Common.{sym, ◌∙◌, arith}
use Rattle.base.proofs.AnswerLaws.{pick_false, pick_true}
use Rattle.segments.specs.Segments.{blank}
use Rattle.route.proofs.RouteLaws.{grant_next, grant_none}
use Rattle.route.proofs.rights.grant_in.Goals as goal

pub returns-then-holds_byte : goal.returns-then-holds_byte
returns-then-holds_byte c =
    let l = c.loop-s in
    let items = c.used-s-items.result.now in
    rw (← c.used-s-items.ensures) (c.grant_of.ensures
    ∙ sym (l.invariant
    ∙ (grant_next c.args.iomode c.args.x items l.s-index blank (omega arith)
    ∙ pick_true _ _ _ (sym c.holds_byte.ensures ∙ c.if-holds_byte.true))))

pub loop-s-preserved : goal.loop-s-preserved
loop-s-preserved c =
    let l = c.loop-s in
    let items = c.used-s-items.result.now in
    l.invariant
    ∙ (grant_next c.args.iomode c.args.x items l.s-index blank (omega arith)
    ∙ pick_false _ _ _ (sym c.holds_byte.ensures ∙ c.if-holds_byte.false))

pub returns : goal.returns
returns c =
    let l = c.loop-s in
    let items = c.used-s-items.result.now in
    rw (← c.used-s-items.ensures) (sym (l.invariant ∙ grant_none c.args.iomode c.args.x items l.s-index (omega arith)))
