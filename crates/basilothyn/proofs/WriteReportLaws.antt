-- What was read of error reports and of statistics, in plain numbers.
use mathlib.Core.Path.{◌≡◌}
use mathlib.Core.List.{List}
use Rattle.base.specs.Answer.{Answer, accepted, refused, given}
use Rattle.base.specs.Lists.{length_of, members_in}
use Rattle.statistics.specs.declared.Statistic.{Statistic}
use Rattle.report.specs.Reports.{Report}
use Rattle.base.specs.Results.{answer_of}
use Rattle.report.specs.Answers.{statistic_entries, heads_of, offsets_of}
use Rattle.report.specs.declared.body.ReportsRead.{ReportsRead}
use Rattle.report.specs.declared.body.StatisticsRead.{StatisticsRead}
use Rattle.abi_wire.specs.ReportResults.{answer_of_reports, arrays_in}
use Rattle.abi_wire.specs.StatisticsResults.{answer_of_statistics, statistic_array_in}

pub reports_are : (a : Answer (List Report)) (x : ReportsRead)
    → answer_of x.answer ≡ length_of a → x.heads ≡ heads_of (members_in a) → x.errors_at ≡ offsets_of (members_in a) → answer_of_reports x ≡ arrays_in a
unfolding length_of given
reports_are (accepted rs) x e h p = rw (e, h, p)
reports_are (refused n) x e h p = rw e

pub statistics_are : (a : Answer (List Statistic)) (x : StatisticsRead)
    → answer_of x.answer ≡ length_of a → x.statistics ≡ statistic_entries (members_in a) → answer_of_statistics x ≡ statistic_array_in a
unfolding length_of given
statistics_are (accepted rs) x e h = rw (e, h)
statistics_are (refused n) x e h = rw e
