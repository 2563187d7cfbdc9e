-- `claims::unsound_is_20` is by the definitions, and two laws of `basilothyn` of a record that is no table.
use Rattle.base.specs.Answer.{pick}
use Rattle.events.specs.Events.{event_result}
use Rattle.route.specs.Routes.{routed}
use Rattle.basilothyn.proofs.RecordUnchanged.{no_table_event, no_table_routed}
use Rattle.claims.proofs.unsound_is_20.Goals as goal

pub returns : goal.returns
unfolding event_result routed pick
returns _ = (
  λ e t store h. rw h,
  λ write t store offset len h. rw h,
  λ e given store n h. no_table_event given n h store e,
  λ write given store offset len n h. no_table_routed given n h store write offset len,
)
