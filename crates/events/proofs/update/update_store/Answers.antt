-- `events::update::update_store` meets its contract: one way out for each step.
use Rattle.events.proofs.EventLaws.{cleared_named}
use Rattle.slots.specs.Slots.{cleared_from, is_set}
use Prim.Native.Nat.{ℕ}
use mathlib.Core.Bool.{Bool}
use mathlib.Core.List.{List}
use mathlib.Core.Path.{ap, ◌∙◌}
use Rattle.events.proofs.update.update_store.Goals as goal

pub returns-in-Clear : goal.returns-in-Clear
returns-in-Clear c =
    let a = c.args in
    let cleared : List Bool → List ℕ = λ is. cleared_from (is_set a.was) (is_set is) 8 0 a.store.now in
    rw c.in-Clear.is
    (c.clear_unnamed.ensures
    ∙ (ap cleared c.named_slots.ensures ∙ cleared_named a.was _ _))
