-- `route::request::locate` meets its contract: soundness, then the range, then what serves.
use borrow.Author.Tests.{not-false, not-true}
use Rattle.std.specs.Prelude.{Result, Err}
use Rattle.base.specs.Results.{answer_of}
use Rattle.base.specs.declared.refusal.Fault.{Fault}
use Rattle.layout.specs.Answers.{answer_of_layout}
use Rattle.layout.specs.declared.body.Summary.{Summary}
use Rattle.route.proofs.RouteLaws.{is_served, is_unsound, not_served, range_refused}
use Rattle.route.proofs.ServedLaws.{layout_not_refused, layout_read_serves, no_grant_serves, served_limits}
use Rattle.route.specs.Answers.{answer_of_grant, slot_asked}
use Rattle.xdr.proofs.Steps.{by_case}
use Rattle.base.specs.declared.refusal.Refusal.TheVariants as refusal
use borrow.Author.Rules.{rules}
use mathlib.Core.Path.{◌≡◌, sym, ap, ◌∙◌}
use Rattle.route.proofs.request.locate.Goals as goal

pub returns-then-not-j : goal.returns-then-not-j
returns-then-not-j c =
    let a = c.args in
    sym (is_unsound a.write a.t a.store.now a.offset a.len (sym c.validate_and_read-j.ensures.0 ∙ (not-true _ c.if-not-j.true)))

pub returns-in_err-request_last : goal.returns-in_err-request_last
returns-in_err-request_last c =
    let a = c.args in
    let e : c.from_residual.result ≡ Err (refusal.Fault c.in_err-request_last.field-0.0) = search rules in
    rw e (sym (range_refused a.write a.t a.store.now a.offset a.len _
    (sym c.validate_and_read-j.ensures.0 ∙ (not-false _ c.if-not-j.false))
    (by_case answer_of c.request_last.ensures c.in_err-request_last.was)))

pub returns-in_default : goal.returns-in_default
returns-in_default c =
    let a = c.args in
    let s = sym c.validate_and_read-j.ensures.0 ∙ (not-false _ c.if-not-j.false) in
    let r = by_case answer_of c.request_last.ensures
    c.in_ok-request_last.was in
    let g = by_case answer_of_grant (c.serving_grant-h.ensures s) c.in_default.is in
    sym (not_served a.write a.t a.store.now a.offset a.len _ _ s r
    (no_grant_serves a.t a.store.now a.offset a.write _ g))

pub returns-in_default-answer : goal.returns-in_default-answer
returns-in_default-answer c =
    let a = c.args in
    let s = sym c.validate_and_read-j.ensures.0 ∙ (not-false _ c.if-not-j.false) in
    let served = c.serving_grant-h.ensures s in
    let g = by_case answer_of_grant served c.in-Some.is in
    let i = c.slot_asked.ensures ∙ ap slot_asked served in
    let starts = c.validate_and_read-j.result.read.starts in
    let l = by_case (λ (x : Result Summary Fault). answer_of_layout x starts) c.validate_and_read-j.ensures.1
    c.in_default-answer.is in
    absurd (layout_not_refused a.t a.store.now s a.write a.offset _ _ g i _ l)

pub piece_at-requires : goal.piece_at-requires
piece_at-requires c =
    let a = c.args in
    let s = sym c.validate_and_read-j.ensures.0 ∙ (not-false _ c.if-not-j.false) in
    let r = by_case answer_of c.request_last.ensures
    c.in_ok-request_last.was in
    let served = c.serving_grant-h.ensures s in
    let g = by_case answer_of_grant served c.in-Some.is in
    let i = c.slot_asked.ensures ∙ ap slot_asked served in
    let starts = c.validate_and_read-j.result.read.starts in
    let l = by_case (λ (x : Result Summary Fault). answer_of_layout x starts) c.validate_and_read-j.ensures.1
    c.in-Ok.is in
    served_limits a.write a.t a.store.now a.offset a.len _ _ r
    (layout_read_serves a.t a.store.now s a.write a.offset _ _ g i _ l)

pub returns : goal.returns
returns c =
    let a = c.args in
    let s = sym c.validate_and_read-j.ensures.0 ∙ (not-false _ c.if-not-j.false) in
    let r = by_case answer_of c.request_last.ensures
    c.in_ok-request_last.was in
    let served = c.serving_grant-h.ensures s in
    let g = by_case answer_of_grant served c.in-Some.is in
    let i = c.slot_asked.ensures ∙ ap slot_asked served in
    let starts = c.validate_and_read-j.result.read.starts in
    let l = by_case (λ (x : Result Summary Fault). answer_of_layout x starts) c.validate_and_read-j.ensures.1
    c.in-Ok.is in
    is_served a.write a.t a.store.now a.offset a.len _ _ _ s r
    (layout_read_serves a.t a.store.now s a.write a.offset _ _ g i _ l) c.piece_at.ensures
