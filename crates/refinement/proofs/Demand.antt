-- The calls do what the reference model does, so demand 3 holds of them.
use Prim.Native.Nat.{◌≤◌}
use mathlib.Core.Path.{◌≡◌, refl}
use Rattle.base.specs.Answer.{Answer, accepted, refused, pick}
use Rattle.base.specs.Ranges.{last_byte}
use Rattle.segments.specs.declared.Table.{Table}
use Rattle.segments.specs.Segments.{empty_table}
use Rattle.store.specs.Store.{store_of}
use Rattle.model.specs.Model.{Event, Model, Command, answer_to, rights_and_slots, model_after, read_command, table_of}
use Rattle.model.specs.Claim.{CallResult, Demand3, Fits}
use Rattle.model.specs.Invariants.{Invariant, left_by}
use Rattle.model.proofs.Inv.{GoodCommand}
use Rattle.soundness.proofs.SoundLaws.{model_sound}
use Rattle.model.proofs.CommandLaws.{read_range, read_small}
use Rattle.model.proofs.ModelLaws.{plain_lawful}
use Rattle.model.proofs.FromStep.{demand_3, start_table}
use Rattle.events.specs.Events.{event_result, command_result, stage}
use Rattle.refinement.proofs.UpdateLaws.{command_met}

-- the model's answer to a command or a refusal, and its table and store afterwards
abbrev model_step : Answer Command → Model → CallResult Table
model_step a M = record {
  answer = answer_to last_byte a M;
  kept = table_of last_byte (model_after last_byte a M);
  store = store_of (model_after last_byte a M).slots;
}

result_met : (a : Answer Command) (M : Model) → GoodCommand a
    → ((o : Command) → a ≡ accepted o → (o.first ≤ o.last) × (o.last ≤ last_byte)) → Invariant last_byte M
    → command_result a (table_of last_byte M) (store_of M.slots) ≡ model_step a M
unfolding command_result stage answer_to model_after
result_met (refused n) M g r v = refl
result_met (accepted o) M g r v = let h = r o refl in command_met last_byte M o v g h.0 h.1

pub step_met : (e : Event) (M : Model) → Fits e → Invariant last_byte M
    → event_result e (table_of last_byte M) (store_of M.slots) ≡ left_by (rights_and_slots last_byte) (table_of last_byte) e M
unfolding event_result pick left_by
step_met e M f v = rw (model_sound last_byte M v) (result_met (read_command e) M (read_small e f) (λ o h. read_range e o f h) v)

pub calls_meet_demand_3 : Demand3 (λ t. t) empty_table (rights_and_slots last_byte) event_result
calls_meet_demand_3 = demand_3 (λ t. t) empty_table plain_lawful event_result (table_of last_byte) (λ M. refl) (start_table last_byte) (λ e M f v h. step_met e M f v)
