-- I/O statistics in plain numbers: 0 and the records, or the refusal's number and blank records.
use Rattle.std.specs.Prelude.{ℕ, List, length, replicate}
use Rattle.base.specs.Limits.{most_statistics}
use Rattle.base.specs.Answer.{Answer, accepted, refused, given}
use Rattle.statistics.specs.Statistics.{blank_statistic}
use Rattle.statistics.specs.declared.Statistic.{Statistic}
use Rattle.base.specs.Results.{answer_of}
use Rattle.report.specs.Answers.{statistic_entries}
use Rattle.report.specs.declared.body.StatisticsRead.{StatisticsRead}
use Rattle.abi_wire.specs.declared.statistics_results.StatisticsResult.{StatisticsResult}

-- how many records there are, and the records in 8 entries
pub record StatisticArray : Type 0 where
  pub count : ℕ
  pub entries : List Statistic

-- of the statistics of a body
abbrev pub statistic_array_in : Answer (List Statistic) → Answer StatisticArray
statistic_array_in a = given a λ rs. accepted (record { count = length rs; entries = statistic_entries rs })

-- of what the reader answers, whatever is beside a refusal
abbrev pub answer_of_statistics : StatisticsRead → Answer StatisticArray
answer_of_statistics x = given (answer_of x.answer) λ n. accepted (record { count = n; entries = x.statistics })

unfoldable pub statistics_result : Answer StatisticArray → StatisticsResult
statistics_result (accepted a) = record { refusal = 0; count = a.count; statistics = a.entries }
statistics_result (refused n) = record {
  refusal = n;
  count = 0;
  statistics = replicate most_statistics blank_statistic;
}
