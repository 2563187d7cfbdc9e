-- On every sound table and store an event is the step of the model that they show, whether or not a list of events led there.
use Prim.Native.Nat.{ℕ}
use mathlib.Core.Path.{◌≡◌, sym, ap₂, ◌∙◌}
use mathlib.Core.Bool.{true}
use mathlib.Core.List.{List}
use Rattle.base.specs.Ranges.{last_byte}
use Rattle.segments.specs.declared.Table.{Table}
use Rattle.model.specs.Model.{Event, rights_and_slots, table_of}
use Rattle.soundness.specs.Sound.{sound}
use Rattle.model.specs.Claim.{Fits}
use Rattle.model.specs.Invariants.{left_by}
use Rattle.soundness.specs.AnyTable.{Typed, model_of}
use Rattle.soundness.proofs.SoundParts.{sounds}
use Rattle.soundness.proofs.FromSound.{sound_keeps, store_of_sound, table_of_sound}
use Rattle.events.specs.Events.{event_result}
use Rattle.refinement.proofs.Demand.{step_met}

pub sound_step : (e : Event) (t : Table) (store : List ℕ) → Fits e → Typed last_byte t store → sound t store ≡ true
    → event_result e t store ≡ left_by (rights_and_slots last_byte) (table_of last_byte) e (model_of t store)
sound_step e t store f y h =
    let s = sounds t store h in
    sym (ap₂ (event_result e) (table_of_sound last_byte t store y s) (store_of_sound last_byte t store y s))
    ∙ step_met e (model_of t store) f (sound_keeps last_byte t store y s)
