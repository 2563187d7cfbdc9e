-- `events::stages::apply` meets its contract: an unsound table, an event refused by itself, then `apply_command`.
use Rattle.std.proofs.Common.{sym, ap, ◌∙◌, Err}
use Rattle.std.specs.Prelude.{Result}
use borrow.Author.Tests.{not-false, not-true}
use Rattle.base.proofs.AnswerLaws.{pick_true}
use Rattle.base.specs.Answer.{Answer}
use Rattle.base.specs.declared.refusal.Fault.{Fault}
use Rattle.base.specs.declared.refusal.Refusal.{Refusal}
use Rattle.base.specs.declared.refusal.Refusal.TheVariants.{Unsound}
use Rattle.lookup.specs.Lookup.{named_slots}
use Rattle.model.specs.Model as model
use Rattle.soundness.specs.Validations.{named_if_sound}
use Rattle.xdr.proofs.Steps.{by_case}
use Rattle.events.specs.Answers.{answer_of_command, event_of}
use Rattle.events.specs.declared.command.Command.{Command}
use Rattle.events.proofs.EventLaws.{is_unsound, read_accepted, read_refused, refused_left}
use Rattle.events.proofs.stages.apply.Goals as goal

pub returns-then-not-j : goal.returns-then-not-j
returns-then-not-j c =
    let a = c.args in
    refused_left _ a.store.now _ Unsound c.refused.ensures ∙ sym (is_unsound a.t a.store.now (event_of a.e a.bytes.now) (sym c.validate-j.ensures.0 ∙ (not-true _ c.if-not-j.true)))

pub returns-in-Err : goal.returns-in-Err
returns-in-Err c =
    let a = c.args in
    let s = sym c.validate-j.ensures.0 ∙ (not-false _ c.if-not-j.false) in
    let says : Result Command Fault → Answer model.Command = λ r. answer_of_command r a.bytes.now in
    refused_left _ a.store.now _ _ (c.refused-in-Err.ensures ∙ ap (λ (e : Refusal). record { verdict = Err e; table = a.t }) c.from.ensures)
    ∙ sym (read_refused a.t a.store.now (event_of a.e a.bytes.now) s _ (by_case says c.read_command.ensures.0 c.in-Err.is))

pub apply_command-requires : goal.apply_command-requires
unfolding named_if_sound
apply_command-requires c =
    let a = c.args in
    let s = sym c.validate-j.ensures.0 ∙ (not-false _ c.if-not-j.false) in (
      c.validate-j.ensures.1 ∙ pick_true _ (named_slots a.t) _ s,
      rw c.in-Ok.is at c.read_command.ensures.1,
    )

pub returns : goal.returns
returns c =
    let a = c.args in
    let s = sym c.validate-j.ensures.0 ∙ (not-false _ c.if-not-j.false) in
    let says : Result Command Fault → Answer model.Command = λ r. answer_of_command r a.bytes.now in
    c.apply_command.ensures
    ∙ sym (read_accepted a.t a.store.now (event_of a.e a.bytes.now) s _ (by_case says c.read_command.ensures.0 c.in-Ok.is))
