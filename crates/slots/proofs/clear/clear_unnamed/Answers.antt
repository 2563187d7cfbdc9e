-- `slots::clear::clear_unnamed` meets its contract: the slots still to be looked at finish the work.
use Rattle.slots.proofs.SearchLaws.{cleared_all, cleared_next}
use Rattle.slots.specs.Slots.{cleared_from, is_set}
use borrow.Author.Rules.{rules}
use mathlib.Core.Path.{sym, ap, ◌∙◌}
use native.Mathlib.Omega.{arith}
use Rattle.slots.proofs.clear.clear_unnamed.Goals as goal

pub loop-i-preserved : goal.loop-i-preserved
loop-i-preserved c =
    let l = c.loop-i in
    let a = c.args in (
      search rules,
      l.invariant.1
          ∙ (cleared_next (is_set a.was) (is_set a.is) l.i l.store (omega arith)
          ∙ ap (cleared_from (is_set a.was) (is_set a.is) _ _) (sym c.clear_if_unnamed.ensures)),
    )

pub returns : goal.returns
returns c =
    let a = c.args in
    sym (c.loop-i.invariant.1 ∙ cleared_all (is_set a.was) (is_set a.is) _ _ (omega arith))
