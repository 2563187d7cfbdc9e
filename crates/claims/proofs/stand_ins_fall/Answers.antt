-- `claims::stand_ins_fall` is three laws of `model`, of calls that keep the table.
use Rattle.segments.specs.Segments.{empty_table}
use Rattle.model.proofs.StandIns.{changes_nothing_falls, first_only_falls, refuses_all_falls}
use Rattle.claims.proofs.stand_ins_fall.Goals as goal

pub returns : goal.returns
returns _ = (refuses_all_falls (λ t. t) empty_table, changes_nothing_falls (λ t. t) empty_table, first_only_falls (λ t. t) empty_table)
