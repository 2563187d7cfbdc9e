-- `basilothyn::wire::basilothyn_read_statistics` meets its contract: what was read, with its entries, as a result.
use Rattle.basilothyn.proofs.WriteReportLaws.{statistics_are}
use Rattle.abi_wire.specs.StatisticsResults.{statistics_result}
use mathlib.Core.Path.{ap, ◌∙◌}
use Rattle.basilothyn.proofs.wire.basilothyn_read_statistics.Goals as goal

pub returns : goal.returns
returns c =
    let r = c.read_statistics in
    c.statistics_result.ensures ∙ ap statistics_result (statistics_are _ r.result r.ensures.0 r.ensures.1)
