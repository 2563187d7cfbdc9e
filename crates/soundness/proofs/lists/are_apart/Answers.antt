-- `soundness::lists::are_apart` meets its contract: neighbours overlap, have a gap between them, or touch.
use Rattle.soundness.proofs.SegmentLaws.{gap, overlap, touch}
use mathlib.Core.Bool.{not}
use mathlib.Core.Path.{sym, ap, ◌∙◌}
use native.Mathlib.Omega.{arith}
use Rattle.soundness.proofs.lists.are_apart.Goals as goal

pub returns-then-b-a : goal.returns-then-b-a
returns-then-b-a c = sym (overlap c.args.a c.args.b c.if-b-a.true)

pub returns-then-b-a-ne1 : goal.returns-then-b-a-ne1
returns-then-b-a-ne1 c =
    sym (gap c.args.a c.args.b (omega arith) c.if-b-a-ne1.true)

pub returns : goal.returns
returns c =
    ap not c.same_right.ensures
    ∙ sym (touch c.args.a c.args.b (omega arith) c.if-b-a-ne1.false)
