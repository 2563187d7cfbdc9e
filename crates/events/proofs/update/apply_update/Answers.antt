-- `events::update::apply_update` meets its contract: the store is written after the edit is known to fit.
use Rattle.std.proofs.Common.{sym, ap, ◌∙◌}
use Rattle.base.specs.Answer.{pick}
use Rattle.base.specs.declared.refusal.Refusal.TheVariants.{TooManySegments}
use Rattle.segments.specs.Segments.{READ, RW, acts_on, is_named}
use Rattle.segments.specs.declared.Table.{Table}
use Rattle.table.specs.declared.change.Change.{Change}
use Rattle.table.specs.Edits.{edited_where}
use Rattle.table.proofs.TableLaws.{both_fit_lem, read_over, rw_over}
use Rattle.events.specs.Events.{change_of}
use Rattle.events.proofs.EventLaws.{does_not_fit, is_done, refused_left, stored_named}
use Rattle.events.proofs.update.apply_update.Goals as goal

pub returns-in_default : goal.returns-in_default
unfolding pick
returns-in_default c =
    let a = c.args in
    let read = c.edit_list.ensures ∙ ap (λ (k : Change). edited_where (acts_on a.span.iomode READ) k a.span.first a.span.last a.t.now.read) c.change_of-c.ensures in
    let over = read_over (change_of a.s) a.span.iomode a.span.first a.span.last a.t.now (sym c.in_default.is ∙ read) in
    refused_left _ a.store.now _ TooManySegments c.refused.ensures ∙ sym (does_not_fit a.t.now a.store.now a.s a.body.now _ _ _ over)

pub returns-in_default-edit_list : goal.returns-in_default-edit_list
unfolding pick
returns-in_default-edit_list c =
    let a = c.args in
    let read = c.edit_list.ensures ∙ ap (λ (k : Change). edited_where (acts_on a.span.iomode READ) k a.span.first a.span.last a.t.now.read) c.change_of-c.ensures in
    let write = c.edit_list-2.ensures ∙ ap (λ (k : Change). edited_where (acts_on a.span.iomode RW) k a.span.first a.span.last a.t.now.rw) c.change_of-c.ensures in
    let over = rw_over (change_of a.s) a.span.iomode a.span.first a.span.last a.t.now c.in-Some.read (sym c.in-Some.is ∙ read) (sym c.in_default-edit_list.is ∙ write) in
    refused_left _ a.store.now _ TooManySegments c.refused-in_default-edit_list.ensures ∙ sym (does_not_fit a.t.now a.store.now a.s a.body.now _ _ _ over)

pub returns : goal.returns
unfolding pick
returns c =
    let a = c.args in
    let read = c.edit_list.ensures ∙ ap (λ (k : Change). edited_where (acts_on a.span.iomode READ) k a.span.first a.span.last a.t.now.read) c.change_of-c.ensures in
    let write = c.edit_list-2.ensures ∙ ap (λ (k : Change). edited_where (acts_on a.span.iomode RW) k a.span.first a.span.last a.t.now.rw) c.change_of-c.ensures in
    let fit = both_fit_lem (change_of a.s) a.span.iomode a.span.first a.span.last a.t.now c.in-Some.read c.in-Some-edit_list.rw (sym c.in-Some.is ∙ read) (sym c.in-Some-edit_list.is ∙ write) in
    let u : Table = record { read = c.in-Some.read; rw = c.in-Some-edit_list.rw } in
    let after = stored_named a.s a.body.now _ a.t.now (is_named u) a.store.now c.requires in
    is_done a.t.now a.store.now a.s a.body.now _ _ _ u _ _ fit c.accepted.ensures (c.update_store.ensures ∙ after)
