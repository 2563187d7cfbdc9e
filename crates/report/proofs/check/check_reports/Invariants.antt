use Rattle.std.proofs.Common.{◌≡◌, ◌*◌, ◌≤◌, length, drop}
use Rattle.report.specs.Writing.{counts, checked_reports, entries_at}
use Rattle.report.proofs.check.check_reports.Given as goal

abbrev pub invariant-loop-report : goal.invariant-loop-report
invariant-loop-report l =
    (length l.heads ≤ 8) × (l.from ≤ 384 * l.report-index)
    × (checked_reports l.heads (entries_at (counts l.heads) l.errors 0)
    ≡ checked_reports (drop l.report-index l.heads) (entries_at (counts (drop l.report-index l.heads)) l.errors l.from))
