-- What follows the reports of a layout return, as bytes: the count and the records, where they may be written.
use Rattle.std.specs.Prelude.{ℕ, List, take, leb}
use Rattle.base.specs.Answer.{Answer, accepted, refused, given, pick}
use Rattle.base.specs.Limits.{most_statistics}
use Rattle.statistics.specs.StatisticChecks.{checked_statistics}
use Rattle.statistics.specs.StatisticBytes.{statistics_part}
use Rattle.statistics.specs.declared.Statistic.{Statistic}

-- "too many statistics (8)", the records in order, then the bytes
unfoldable pub encoded : ℕ → List Statistic → Answer (List ℕ)
encoded count records =
    pick (leb count most_statistics)
    (given (checked_statistics (take count records)) λ u. accepted (statistics_part (take count records)))
    (refused 8)
