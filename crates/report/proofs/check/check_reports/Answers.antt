-- `report::check::check_reports` meets its contract. The loop's invariant: the reports passed are allowed, so the heads left and the entries that they
-- use decide; the entries passed are at most 16 of 24 bytes for each report.
use Rattle.std.proofs.Common.{◌<◌, length, drop, sym, ◌∙◌, arith}
use Rattle.std.proofs.lemmas.Grind.{common_steps}
use Rattle.base.specs.Answer.{given}
use Rattle.report.proofs.EntryLaws.{allowed, checked_next, checked_none}
use Rattle.report.specs.Writing.{counts, entries_at}
use Rattle.report.proofs.check.check_reports.Goals as goal

pub returns-in_err-check_report : goal.returns-in_err-check_report
unfolding given
returns-in_err-check_report c =
    let l = c.loop-report in
    let hs = c.args.heads.now in
    let h : l.report-index < length hs = omega arith in
    let next = checked_next hs l.report-index c.args.errors.now l.from h in
    let bad = l.invariant.2 ∙ rw (← c.in_err-check_report.ensures) at next in
    grind (arith, common_steps, bad)

pub loop-report-preserved : goal.loop-report-preserved
unfolding given
loop-report-preserved c =
    let l = c.loop-report in
    let hs = c.args.heads.now in
    let h : l.report-index < length hs = omega arith in
    let k = sym c.in_ok-check_report.ensures in (
      l.invariant.0,
      omega (arith, l.invariant.1, (allowed _ _ k).few),
      rw (l.invariant.2, checked_next hs l.report-index c.args.errors.now l.from h, k),
    )

pub returns : goal.returns
returns c =
    let l = c.loop-report in
    let hs = c.args.heads.now in
    rw (l.invariant.2, checked_none hs l.report-index (entries_at (counts (drop l.report-index hs)) c.args.errors.now l.from) (omega arith))
