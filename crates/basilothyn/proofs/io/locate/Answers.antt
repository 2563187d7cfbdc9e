-- `basilothyn::io::locate` meets its contract: the record is no table, or the core answers.
use Rattle.std.proofs.Common.{sym, ◌∙◌}
use Rattle.basilothyn.proofs.CallLaws.{not_routed, was_routed}
use Rattle.basilothyn.proofs.io.locate.Goals as goal

pub returns-in_default : goal.returns-in_default
returns-in_default c =
    not_routed c.args.table.now c.args.store.now c.args.write c.args.offset c.args.len _ (sym c.in_default.is ∙ c.table_of.ensures) c.refused.ensures

pub returns : goal.returns
returns c =
    was_routed c.args.table.now c.args.store.now c.args.write c.args.offset c.args.len _ c.in-Some.t (sym c.in-Some.is ∙ c.table_of.ensures)
    _ c.locate.ensures c.result_of.ensures
