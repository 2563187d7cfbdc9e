use Rattle.std.proofs.Common.{◌≡◌, ◌+◌, ◌*◌, ◌≤◌, length, drop, replicate}
use Rattle.statistics.proofs.EncodeLaws.{Left}
use Rattle.statistics.specs.StatisticBytes.{statistics_bytes, statistics_part}
use Rattle.statistics.specs.StatisticChecks.{checked_statistics}
use Rattle.statistics.proofs.encode.put_statistics.Given as goal

abbrev pub invariant-loop-r : goal.invariant-loop-r
invariant-loop-r l =
    (l.count ≤ 8) × (length l.r-items ≡ l.count) × (length l.bytes ≡ 3492) × (l.p ≤ 4 + 436 * l.r-index)
    × (checked_statistics l.r-items ≡ checked_statistics (drop l.r-index l.r-items))
    × Left (replicate 3492 0) 0 (statistics_part l.r-items) l.bytes l.p (statistics_bytes (drop l.r-index l.r-items))
