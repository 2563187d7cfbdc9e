-- `events::command::read_command` meets its contract: one way out for each event.
use Rattle.model.specs.Model.{read_command}
use mathlib.Core.Path.{refl}
use native.Mathlib.Omega.{arith}
use Rattle.events.proofs.command.read_command.Goals as goal

pub returns-in-Return : goal.returns-in-Return
unfolding read_command
returns-in-Return c = rw c.in-Return.is (c.range_command.ensures c.args.bytes.now)

pub returns-in-Recall : goal.returns-in-Recall
unfolding read_command
returns-in-Recall c = rw c.in-Recall.is (c.range_command-in-Recall.ensures c.args.bytes.now)

pub returns-in-Revoke : goal.returns-in-Revoke
unfolding read_command
returns-in-Revoke c = rw c.in-Revoke.is (refl, omega arith)
