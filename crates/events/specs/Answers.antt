-- What the types of the events' code stand for: an event, its command, and an outcome.
use Rattle.std.specs.Prelude.{ℕ, ◌+◌, ◌≤◌, List, Result, Ok, Err}
use Rattle.base.specs.Refusals.{fault_number, number_of}
use Rattle.base.specs.Answer.{Answer, accepted, refused}
use Rattle.octets.specs.Numbers.{bytes_from}
use Rattle.segments.specs.declared.Table.{Table}
use Rattle.store.specs.Store.{Body}
use Rattle.model.specs.Model as model
use Rattle.model.specs.Claim.{CallResult}
use Rattle.events.specs.declared.event.Event.{Event}
use Rattle.events.specs.declared.event.Event.TheVariants as event
use Rattle.events.specs.declared.command.Action.{Action}
use Rattle.events.specs.declared.command.Action.TheVariants as action
use Rattle.events.specs.declared.command.Command.{Command}
use Rattle.events.specs.declared.outcome.Outcome.{Outcome}
use Rattle.base.specs.declared.refusal.Fault.{Fault}
use Rattle.base.specs.declared.refusal.Refusal.{Refusal}

-- ---- an event and its command; bytes: those of a grant

abbrev pub event_of : Event → List ℕ → model.Event
event_of event.Grant bytes = model.Grant bytes
event_of (event.Return n) bytes = model.Return n.offset n.len n.iomode
event_of (event.Recall n) bytes = model.Recall n.offset n.len n.iomode
event_of event.Revoke bytes = model.Revoke

-- b: a grant's body
abbrev pub action_of : Action → Body → model.Action
action_of action.Grant b = model.grants b
action_of action.Return b = model.returns
action_of action.Recall b = model.recalls
action_of action.Revoke b = model.revokes

abbrev pub command_of : Command → List ℕ → model.Command
command_of o bytes = record {
  action = action_of o.action (bytes_from o.body.len bytes o.body.start);
  iomode = o.span.iomode;
  first = o.span.first;
  last = o.span.last;
  len = o.len;
}

abbrev pub answer_of_command : Result Command Fault → List ℕ → Answer model.Command
answer_of_command (Ok o) bytes = accepted (command_of o bytes)
answer_of_command (Err e) bytes = refused (fault_number e)

-- the body of a command lies in n bytes
abbrev pub BodyIn : Result Command Fault → ℕ → Type 0
BodyIn (Ok o) n = o.body.start + o.body.len ≤ n
BodyIn (Err e) n = Unit {0}

-- ---- an outcome: 0 for accepted, else the refusal's number

abbrev pub number_of_verdict : Result (Unit {0}) Refusal → ℕ
number_of_verdict (Ok u) = 0
number_of_verdict (Err e) = number_of e

-- an outcome and the store after it
abbrev pub result_of : Outcome → List ℕ → CallResult Table
result_of o store = record { answer = number_of_verdict o.verdict; kept = o.table; store = store }
