-- `claims::records_read_are_clear` is a law of `statistics`.
use Rattle.report.proofs.ReturnRoundTrip.{read_all}
use Rattle.statistics.proofs.StatisticBack.{part_back}
use lib.ListN.{length}
use Rattle.claims.proofs.records_read_are_clear.Goals as goal

pub returns : goal.returns
returns _ = λ bs r b e. let a = read_all bs r e in (part_back bs a.offset r.statistics (length bs) b a.statistics).clear
