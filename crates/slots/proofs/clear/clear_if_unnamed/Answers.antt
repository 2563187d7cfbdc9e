-- `slots::clear::clear_if_unnamed` meets its contract: only a slot that has lost its last name is cleared.
use Rattle.slots.proofs.SearchLaws.{cleared_one, kept_named, kept_unnamed}
use Rattle.store.specs.Store.{empty, slot_set}
use mathlib.Core.Path.{◌∙◌}
use Rattle.slots.proofs.clear.clear_if_unnamed.Goals as goal

pub returns-then-not-was : goal.returns-then-not-was
returns-then-not-was c =
    let a = c.args in
    kept_unnamed a.was a.is (slot_set a.store.now a.i.0 empty) a.store.now (c.if-not-was.true)

pub returns-then-is : goal.returns-then-is
returns-then-is c =
    let a = c.args in
    kept_named a.was a.is (slot_set a.store.now a.i.0 empty) a.store.now c.if-is.true

pub returns : goal.returns
returns c =
    let a = c.args in
    c.clear_slot.ensures
    ∙ cleared_one a.was a.is (slot_set a.store.now a.i.0 empty) a.store.now
    (c.if-not-was.false) c.if-is.false
