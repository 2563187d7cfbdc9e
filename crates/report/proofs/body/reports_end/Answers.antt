-- `report::body::reports_end` meets its contract. The loop's invariant: the reports passed are allowed, so what is left decides.
use Rattle.std.proofs.Common.{◌≡◌, ◌+◌, ◌-◌, sym, ◌∙◌, arith}
use Rattle.std.proofs.lemmas.Grind.{common_steps}
use Rattle.report.proofs.ReportLaws.{count_refused, reports_begun}
use Rattle.report.specs.Reports.{report_at}
use Rattle.xdr.proofs.EndLaws.{first_refuses, none_end, others_end}
use Rattle.report.proofs.body.reports_end.Goals as goal

pub returns-in_err-count : goal.returns-in_err-count
returns-in_err-count c = grind (arith, common_steps, count_refused)

pub loop-init : goal.loop-init
loop-init c =
    let all : c.in_ok-count.count - 0 ≡ c.in_ok-count.count = omega arith in
    rw (all, reports_begun _ _ _ _ (sym c.in_ok-count.ensures))

pub returns-in_err-d : goal.returns-in_err-d
returns-in_err-d c = grind (arith, common_steps, first_refuses)

pub loop-preserved : goal.loop-preserved
loop-preserved c =
    let l = c.loop in
    let left : c.in_ok-count.count - (l.counter + 1) ≡ c.in_ok-count.count - l.counter - 1 = omega arith in
    rw left (l.invariant ∙ others_end report_at (c.in_ok-count.count - l.counter) c.args.s.now l.d.at _ _ (omega arith) (sym c.in_ok-d.ensures))

pub returns : goal.returns
returns c = grind (arith, common_steps, none_end)
