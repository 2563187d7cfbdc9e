use Rattle.std.proofs.Common.{◌≡◌, ◌-◌}
use Rattle.report.specs.Reports.{report_at, reports_at}
use Rattle.xdr.specs.Parsed.{end_of, many_at}
use Rattle.report.proofs.body.reports_end.Given as goal

abbrev pub invariant-loop : goal.invariant-loop
invariant-loop l = end_of (reports_at l.s 0) ≡ end_of (many_at report_at (l.count - l.counter) l.s l.d.at)
