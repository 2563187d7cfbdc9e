-- `events::stages::apply_command` meets its contract: the decision refuses, or the update is made.
use Rattle.std.proofs.Common.{◌≡◌, ℕ, ◌+◌, ◌-◌, sym, ap, ◌∙◌, arith}
use Rattle.base.specs.Answer.{Answer, accepted}
use Rattle.base.specs.Results.{answered}
use Rattle.octets.specs.Numbers.{bytes_from}
use Rattle.xdr.proofs.Steps.{by_case}
use Rattle.events.specs.Answers.{action_of, command_of}
use Rattle.events.specs.Events.{command_result, decision}
use Rattle.events.specs.declared.decision.Update.{Update}
use Rattle.events.proofs.EventLaws.{is_allowed, not_allowed, refused_left}
use Rattle.events.proofs.stages.apply_command.Goals as goal

pub returns-in-Err : goal.returns-in-Err
returns-in-Err c =
    let a = c.args in
    let p = a.o.body in
    let n : p.start + p.len - p.start ≡ p.len = omega arith in
    let says : ℕ → Answer Update = λ n. decision (action_of a.o.action (bytes_from n a.bytes.now p.start)) a.o.span.iomode a.o.span.first a.o.span.last a.t.now a.store.now in
    let k = by_case answered c.decide.ensures c.in-Err.is in
    refused_left _ a.store.now _ _ c.refused.ensures ∙ sym (not_allowed a.t.now a.store.now (command_of a.o a.bytes.now) _ (sym (ap says n) ∙ k))

pub returns : goal.returns
returns c =
    let a = c.args in
    let p = a.o.body in
    let n : p.start + p.len - p.start ≡ p.len = omega arith in
    let k = by_case answered c.decide.ensures c.in-Ok.is in
    c.apply_update.ensures
    ∙ (is_allowed a.t.now a.store.now a.o.action _ _ _ _ a.o.len _ k
    ∙ ap (λ (n : ℕ). command_result (accepted (record {
      action = action_of a.o.action (bytes_from n a.bytes.now p.start);
      iomode = a.o.span.iomode;
      first = a.o.span.first;
      last = a.o.span.last;
      len = a.o.len;
    })) a.t.now a.store.now) n)
