-- `events::command::grant_command` meets its contract: the fault of its bytes, or what they say.
use Rattle.std.proofs.Common.{rules, ◌≡◌, sym, Err}
use Rattle.std.specs.Prelude.{Result}
use Rattle.base.specs.declared.refusal.Fault.{Fault}
use Rattle.layout.specs.declared.body.Summary.{Summary}
use Rattle.layout4.specs.declared.whole.Layout4.{Layout4}
use Rattle.layout4.specs.Answers.{answer_of_layout4}
use Rattle.model.proofs.CommandLaws.{layout4_read}
use Rattle.model.specs.Model.{grant_command}
use Rattle.xdr.proofs.Steps.{by_case}
use Rattle.events.proofs.EventLaws.{grant_read, grant_refused}
use Rattle.events.proofs.command.grant_command.Goals as goal

pub returns-in_err-l : goal.returns-in_err-l
returns-in_err-l c =
    let r = c.read_layout4 in
    let k = by_case (λ (a : Result (Layout4 × Summary) Fault). answer_of_layout4 a r.result.starts) r.ensures.0 c.in_err-l.was in
    let e : c.from_residual.result ≡ Err c.in_err-l.field-0.0 = search rules in
    rw e (sym (grant_refused c.args.bytes.now _ k), tt)

pub returns : goal.returns
unfolding grant_command
returns c =
    let r = c.read_layout4 in
    let k = by_case (λ (a : Result (Layout4 × Summary) Fault). answer_of_layout4 a r.result.starts) r.ensures.0 c.in_ok-l.was in
    (sym (grant_read c.args.bytes.now _ k), (layout4_read c.args.bytes.now _ k).within)
