-- `basilothyn::wire::basilothyn_read_reports` meets its contract: what was read, with its arrays, as a result.
use Rattle.basilothyn.proofs.WriteReportLaws.{reports_are}
use Rattle.abi_wire.specs.ReportResults.{reports_result}
use mathlib.Core.Path.{ap, ◌∙◌}
use Rattle.basilothyn.proofs.wire.basilothyn_read_reports.Goals as goal

pub returns : goal.returns
returns c =
    let r = c.read_reports in
    c.reports_result.ensures ∙ ap reports_result (reports_are _ r.result r.ensures.0 r.ensures.1 r.ensures.2)
