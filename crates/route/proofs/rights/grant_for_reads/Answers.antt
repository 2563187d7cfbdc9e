-- `route::rights::grant_for_reads` meets its contract: no grant, a grant under flag 4, and one without it.
use Rattle.layout.specs.Layouts.{flags_at_end}
use Rattle.route.proofs.RouteLaws.{no_grant_for_reads, with_flag_4, without_flag_4}
use Rattle.route.specs.Answers.{answer_of_grant}
use Rattle.route.specs.Routes.{no_reads}
use Rattle.store.specs.Store.{body_in}
use mathlib.Core.Path.{sym, ap, ◌∙◌}
use Rattle.route.proofs.rights.grant_for_reads.Goals as goal

pub returns-in_err-g : goal.returns-in_err-g
returns-in_err-g c =
    let a = c.args in
    rw c.from_residual.ensures (sym (no_grant_for_reads a.store.now (answer_of_grant a.h) _ (ap answer_of_grant c.in_err-g.was)))

pub returns-then-has_bit : goal.returns-then-has_bit
returns-then-has_bit c =
    let a = c.args in
    let flags = c.flags_at_end-flags.ensures ∙ ap flags_at_end (c.slot_body.ensures ∙ ap body_in c.slot_bytes.ensures) in
    sym (with_flag_4 a.store.now (answer_of_grant a.h) _ (ap answer_of_grant c.in_ok-g.was)
    (sym (c.has_bit.ensures ∙ ap no_reads flags) ∙ c.if-has_bit.true))

pub returns : goal.returns
returns c =
    let a = c.args in
    let flags = c.flags_at_end-flags.ensures ∙ ap flags_at_end (c.slot_body.ensures ∙ ap body_in c.slot_bytes.ensures) in
    sym (without_flag_4 a.store.now (answer_of_grant a.h) _ (ap answer_of_grant c.in_ok-g.was)
    (sym (c.has_bit.ensures ∙ ap no_reads flags) ∙ c.if-has_bit.false))
