-- `report::body::reports_into` meets its contract: the reports, the statistics, the end.
use Rattle.std.proofs.Common.{sym, ap, arith}
use Rattle.std.proofs.lemmas.Grind.{common_steps}
use Rattle.base.specs.Answer.{accepted}
use Rattle.report.proofs.ReportLaws.{answer_accepted, arrays_no, arrays_ok, body_accepted, bytes_left_over, length_no, reports_of, reports_of_refused, reports_refuse, statistics_refuse}
use Rattle.report.specs.Reports.{report_body}
use Rattle.xdr.proofs.EndLaws.{end_was_read, end_was_refused}
use Rattle.report.proofs.body.reports_into.Goals as goal

pub returns-in_err-n : goal.returns-in_err-n
returns-in_err-n c =
    let s = c.args.s.now in
    let w = length_no _ _ (reports_of_refused s _ (reports_refuse s _ (arrays_no _ _ (sym c.in_err-n.ensures)))) in
    grind (arith, common_steps, w)

pub returns-in_err-d : goal.returns-in_err-d
returns-in_err-d c =
    let s = c.args.s.now in
    let a = arrays_ok _ _ _ _ _ (sym c.in_ok-n.ensures) in
    let f = end_was_refused _ _ (sym c.in_err-d.ensures) in
    let w = length_no _ _ (reports_of_refused s _ (statistics_refuse s a.reports _ _ a.were f)) in
    grind (arith, common_steps, w)

pub returns-then-d-s : goal.returns-then-d-s
returns-then-d-s c =
    let s = c.args.s.now in
    let a = arrays_ok _ _ _ _ _ (sym c.in_ok-n.ensures) in
    let f = end_was_read _ _ (sym c.in_ok-d.ensures) in
    (length_no _ 2 (reports_of_refused s 2 (bytes_left_over s a.reports _ f.0 _ a.were f.1 c.if-d-s.true)), tt)

pub returns : goal.returns
returns c =
    let s = c.args.s.now in
    let a = arrays_ok _ _ _ _ _ (sym c.in_ok-n.ensures) in
    let f = end_was_read _ _ (sym c.in_ok-d.ensures) in
    let w = answer_accepted (report_body s) a.reports _ _ _
    (reports_of s _ (body_accepted s a.reports _ f.0 _ a.were f.1 c.if-d-s.false))
    (ap accepted a.count, a.heads, a.offsets) in
    (w.0, (w.1, w.2))
