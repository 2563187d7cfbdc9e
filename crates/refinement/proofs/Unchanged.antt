-- A refused event changes nothing, on whatever table and store; and what the calls leave is sound.
use Prim.Native.Nat.{ℕ}
use mathlib.Core.Path.{◌≡◌, refl, ap₂, ◌∙◌}
use mathlib.Core.Bool.{Bool, true, false}
use mathlib.Core.List.{List}
use lib.ListN.{replicate}
use Rattle.base.specs.Answer.{Answer, accepted, refused, pick}
use Rattle.base.specs.Lists.{Each}
use Rattle.base.specs.Ranges.{last_byte}
use Rattle.segments.specs.declared.Table.{Table}
use Rattle.segments.specs.Segments.{empty_table}
use Rattle.model.specs.Model.{Event, Command, rights_and_slots, read_command, run, start}
use Rattle.soundness.specs.Sound.{sound}
use Rattle.model.specs.Claim.{CallResult, Fits, kept_left, store_left}
use Rattle.soundness.proofs.SoundLaws.{model_sound}
use Rattle.model.proofs.ModelLaws.{plain_lawful}
use Rattle.model.proofs.FromStep.{run_keeps}
use Rattle.events.specs.Events.{event_result, update_result, command_result, refused_with, stage}
use Rattle.refinement.proofs.Demand.{calls_meet_demand_3}

module _ (t : Table) (store : List ℕ) where
  abbrev Unchanged : CallResult Table → Type 0
  Unchanged l = (l.answer ≡ 0 → ⊥) → (l.kept ≡ t) × (l.store ≡ store)

  refused_keeps : (n : ℕ) → Unchanged (refused_with n t store)
  refused_keeps n h = (refl, refl)

  either : (b : Bool) (l k : CallResult Table) → Unchanged l → Unchanged k → Unchanged (pick b l k)
  unfolding pick
  either true l k u w = u
  either false l k u w = w

  stage_keeps : {A : Type 0} (a : Answer A) (next : A → CallResult Table) → ((x : A) → Unchanged (next x)) → Unchanged (stage a t store next)
  unfolding stage
  stage_keeps (accepted x) next h = h x
  stage_keeps (refused n) next h = refused_keeps n

  command_keeps : (a : Answer Command) → Unchanged (command_result a t store)
  unfolding command_result update_result
  command_keeps a = stage_keeps a _ λ o. stage_keeps _ _ λ s. stage_keeps _ _ λ u h. absurd (h refl)

  pub refusal_keeps : (e : Event) → ((event_result e t store).answer ≡ 0 → ⊥) → ((event_result e t store).kept ≡ t) × ((event_result e t store).store ≡ store)
  unfolding event_result
  refusal_keeps e = either (sound t store) _ _ (command_keeps (read_command e)) (refused_keeps 20)

pub sound_after : (es : List Event) → Each Fits es
    → sound (kept_left event_result es empty_table (replicate 32768 0)) (store_left event_result es empty_table (replicate 32768 0)) ≡ true
sound_after es fs =
    let d = calls_meet_demand_3 es fs in
    let v = (run_keeps plain_lawful es fs).0 in
    ap₂ sound d.same_table d.same_store ∙ model_sound last_byte (run (rights_and_slots last_byte) es start) v
