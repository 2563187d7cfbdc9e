-- `report::write::write_reports` meets its contract: the statistics count is four zero bytes.
use Rattle.base.specs.Answer.{given, pick}
use Rattle.octets.specs.Numbers.{be_bytes}
use Rattle.report.specs.Writing.{body_written, reports_written, return_written}
use Rattle.statistics.specs.StatisticBytes.{statistics_bytes, statistics_part}
use Rattle.statistics.specs.StatisticChecks.{checked_statistics}
use Rattle.report.proofs.write.write_reports.Goals as goal

pub returns : goal.returns
unfolding reports_written return_written body_written checked_statistics statistics_part statistics_bytes be_bytes pick given
returns c = c.write_body.ensures
