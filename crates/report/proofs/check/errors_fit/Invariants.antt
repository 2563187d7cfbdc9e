use Rattle.std.proofs.Common.{◌≡◌, ◌+◌, ◌-◌, ◌*◌}
use Rattle.report.specs.Writing.{all_fit, entries_at}
use Rattle.report.proofs.check.errors_fit.Given as goal

abbrev pub invariant-loop : goal.invariant-loop
invariant-loop l =
    (l.at ≡ l.from + 24 * l.counter) × (all_fit (entries_at l.n l.errors l.from) ≡ all_fit (entries_at (l.n - l.counter) l.errors l.at))
