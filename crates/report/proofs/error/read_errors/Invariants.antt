use Rattle.std.proofs.Common.{◌≡◌, ◌-◌}
use Rattle.report.specs.Reports.{error_at}
use Rattle.xdr.specs.Parsed.{end_of, many_at}
use Rattle.report.proofs.error.read_errors.Given as goal

abbrev pub invariant-loop : goal.invariant-loop
invariant-loop l = end_of (many_at error_at l.n l.s l.initial.d.at) ≡ end_of (many_at error_at (l.n - l.counter) l.s l.d.at)
