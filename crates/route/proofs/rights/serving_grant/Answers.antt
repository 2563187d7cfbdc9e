-- `route::rights::serving_grant` meets its contract: a write by RW; a read by RW where it serves reads, else by READ.
use Rattle.base.specs.Answer.{Answer, or_else}
use Rattle.route.proofs.ServedLaws.{read_grant, write_grant}
use Rattle.route.specs.Answers.{answer_of_grant, grant_for_reads}
use Rattle.route.specs.Routes.{Grant, grant_at}
use Rattle.segments.specs.Segments.{READ}
use Rattle.xdr.proofs.Steps.{by_case}
use mathlib.Core.Path.{sym, ap, ◌∙◌}
use Rattle.route.proofs.rights.serving_grant.Goals as goal

pub returns-then-write : goal.returns-then-write
returns-then-write c =
    let a = c.args in
    λ s. c.grant_in-h.ensures ∙ sym (write_grant a.t a.store.now s a.write a.x c.if-write.true)

pub returns-in-Some : goal.returns-in-Some
returns-in-Some c =
    let a = c.args in
    let found = c.grant_for_reads.ensures ∙ ap (grant_for_reads a.store.now) c.grant_in-h.ensures in
    let e = by_case answer_of_grant found c.in-Some.is in
    λ s.
    sym (read_grant a.t a.store.now s a.write a.x c.if-write.false ∙ ap (λ (x : Answer Grant). or_else x (grant_at a.t READ a.x)) e)

pub returns : goal.returns
returns c =
    let a = c.args in
    let found = c.grant_for_reads.ensures ∙ ap (grant_for_reads a.store.now) c.grant_in-h.ensures in
    let e = by_case answer_of_grant found c.in_default.is in
    λ s.
    c.grant_in.ensures
    ∙ sym (read_grant a.t a.store.now s a.write a.x c.if-write.false ∙ ap (λ (x : Answer Grant). or_else x (grant_at a.t READ a.x)) e)
