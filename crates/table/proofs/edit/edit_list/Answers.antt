-- `table::edit::edit_list` meets its contract: the list is not acted on, has no room, or is what the builder holds.
use Rattle.table.proofs.BuilderLaws.{edit_fits, edit_over}
use mathlib.Core.Path.{sym, ◌∙◌}
use Rattle.table.proofs.edit.edit_list.Goals as goal

pub returns-then-r : goal.returns-then-r
returns-then-r c =
    let a = c.args in
    rw (sym c.acts_on.ensures ∙ c.if-not-acts_on.false)
    (edit_over a.c a.s.first a.s.last a.g.now _ c.used.ensures c.build-r.ensures c.if-r.true)

pub returns : goal.returns
returns c =
    let a = c.args in
    rw (sym c.acts_on.ensures ∙ c.if-not-acts_on.false)
    (edit_fits a.c a.s.first a.s.last a.g.now _ c.used.ensures c.build-r.ensures c.if-r.false)
