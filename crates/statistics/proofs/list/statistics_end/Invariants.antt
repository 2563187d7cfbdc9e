use Rattle.std.proofs.Common.{◌≡◌, ◌-◌}
use Rattle.xdr.specs.Parsed.{end_of, many_at}
use Rattle.statistics.specs.Statistics.{statistic_at, statistics_at}
use Rattle.statistics.proofs.list.statistics_end.Given as goal

abbrev pub invariant-loop : goal.invariant-loop
invariant-loop l = end_of (statistics_at l.s l.fn.c.at) ≡ end_of (many_at statistic_at (l.n - l.counter) l.s l.d.at)
