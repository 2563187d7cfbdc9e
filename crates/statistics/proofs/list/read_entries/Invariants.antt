use Rattle.std.proofs.Common.{◌≡◌, ◌-◌, ◌≤◌, length}
use Rattle.statistics.specs.Statistics.{statistic_at, statistic_entries_at}
use Rattle.xdr.proofs.ListedLaws.{filled}
use Rattle.xdr.specs.Parsed.{many_at}
use Rattle.statistics.proofs.list.read_entries.Given as goal

abbrev pub invariant-loop-i : goal.invariant-loop-i
invariant-loop-i l =
    (length l.entries ≡ 8) × (l.n ≤ 8)
    × (statistic_entries_at l.s l.fn.c.at ≡ filled l.n l.entries l.i (many_at statistic_at (l.n - l.i) l.s l.d.at))
