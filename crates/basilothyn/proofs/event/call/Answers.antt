-- `basilothyn::event::call` meets its contract: the record is no table, or the core answers.
use Rattle.std.proofs.Common.{sym, ◌∙◌}
use Rattle.basilothyn.proofs.CallLaws.{not_decoded, decoded}
use Rattle.basilothyn.proofs.event.call.Goals as goal

pub returns-in_default : goal.returns-in_default
returns-in_default c = not_decoded c.args.table.now c.args.store.now _ _ (sym c.in_default.is ∙ c.table_of.ensures) c.unsound.ensures

pub returns : goal.returns
returns c =
    decoded c.args.table.now c.args.store.now _ _ c.in-Some.t (sym c.in-Some.is ∙ c.table_of.ensures) c.apply.result _ c.apply.ensures c.result_of.ensures
