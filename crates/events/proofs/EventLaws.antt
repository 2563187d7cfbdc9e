-- What each way out of the events' functions leaves.
use Prim.Native.Nat.{ℕ}
use mathlib.Core.Path.{◌≡◌, refl, sym, ap, ◌∙◌}
use mathlib.Core.Bool.{Bool, true, false}
use mathlib.Core.List.{List}
use Rattle.base.proofs.AnswerLaws.{never_accepted, same_answer}
use Rattle.base.specs.Refusals.{number_of}
use Rattle.base.specs.declared.refusal.Refusal.{Refusal}
use Rattle.base.specs.Answer.{accepted, refused, given, pick}
use Rattle.base.specs.declared.iomode.Iomode.{Iomode}
use Rattle.layout4.specs.Layout4s.{WholeLayout, layout4}
use Rattle.segments.specs.declared.Table.{Table}
use Rattle.segments.specs.Segments.{is_named}
use Rattle.lookup.specs.declared.range.Condition.{Condition}
use Rattle.lookup.specs.declared.range.Condition.TheVariants.{Held, Recalled}
use Rattle.lookup.specs.Lookup.{named_slots, satisfies, table_meets}
use Rattle.table.specs.Edits.{table_edited}
use Rattle.store.specs.Store.{Body}
use Rattle.model.specs.Model as model
use Rattle.model.specs.Model.{Event, Grant, grant_command, read_command}
use Rattle.model.specs.SlotsShown.{slots_from, slots_in}
use Rattle.soundness.specs.Sound.{sound}
use Rattle.slots.specs.declared.choice.SlotChoice.{SlotChoice}
use Rattle.slots.specs.Slots.{cleared_from, is_set}
use Rattle.events.specs.declared.command.Action.{Action}
use Rattle.events.specs.declared.command.Action.TheVariants as action
use Rattle.std.specs.Prelude.{Ok, Err}
use Rattle.events.specs.declared.outcome.Outcome.{Outcome}
use Rattle.events.specs.declared.decision.Update.{Update}
use Rattle.events.specs.declared.decision.Update.TheVariants as update
use Rattle.events.specs.Answers.{action_of, result_of}
use Rattle.events.specs.Events.{body_granted, event_result, update_result, change_of, other_body, grant_under, grant_decision, command_result, recall_decision, refused_with, decision, stage, store_after}

-- ---- the event's own bytes

pub grant_refused : (bytes : List ℕ) (n : ℕ) → layout4 bytes ≡ refused n → read_command (Grant bytes) ≡ refused n
unfolding read_command given
grant_refused bytes n e = rw e refl

pub grant_read : (bytes : List ℕ) (w : WholeLayout) → layout4 bytes ≡ accepted w → read_command (Grant bytes) ≡ accepted (grant_command bytes w)
unfolding read_command given
grant_read bytes w e = rw e refl

-- ---- the truth values of a table

pub slots_named : (named : List Bool) (t : Table) (store : List ℕ) → named ≡ named_slots t → slots_from (is_set named) store 8 0 ≡ slots_in t store
unfolding slots_in slots_from named_slots
slots_named named t store e = rw e refl

pub cleared_named : (was : List Bool) (u : Table) (store : List ℕ)
    → cleared_from (is_set was) (is_set (named_slots u)) 8 0 store ≡ cleared_from (is_set was) (is_named u) 8 0 store
unfolding cleared_from named_slots
cleared_named was u store = refl

pub stored_named : (s : Update) (b : Body) (named : List Bool) (t : Table) (is : ℕ → Bool) (store : List ℕ) → named ≡ named_slots t
    → store_after s b (is_set named) is store ≡ store_after s b (is_named t) is store
unfolding cleared_from named_slots
stored_named (update.GrantKnown i) b named t is store e = refl
stored_named (update.GrantNew i) b named t is store e = refl
stored_named update.Clear b named t is store e = rw e refl
stored_named update.Recall b named t is store e = refl

-- ---- what the rights say

-- h: the slot that was found; c: what was asked of the rights for it
module _ (h choice : SlotChoice) (c : Condition) (i : Iomode) (first last : ℕ) (t : Table) (found : h ≡ choice) (asked : c ≡ other_body h) where
  other : table_meets (satisfies (other_body choice)) i first last t ≡ table_meets (satisfies c) i first last t
  other = ap (λ (k : SlotChoice). table_meets (satisfies (other_body k)) i first last t) (sym found) ∙ ap (λ (k : Condition). table_meets (satisfies k) i first last t) (sym asked)

  pub held_elsewhere : table_meets (satisfies c) i first last t ≡ true → grant_decision choice i first last t ≡ refused 21
  unfolding grant_decision pick
  held_elsewhere e = rw (other ∙ e) refl

  module _ (e : table_meets (satisfies c) i first last t ≡ false) where
    pub is_recalled_lem : table_meets (satisfies Recalled) i first last t ≡ true → grant_decision choice i first last t ≡ refused 22
    unfolding grant_decision pick
    is_recalled_lem f = rw (other ∙ e, f) refl

    pub may_be_granted : table_meets (satisfies Recalled) i first last t ≡ false → grant_decision choice i first last t ≡ grant_under h
    unfolding grant_decision pick
    may_be_granted f = rw (other ∙ e, f) (ap grant_under (sym found))

-- ---- the stages

module _ (t : Table) (store : List ℕ) where
  pub refused_left : (o : Outcome) (e : Refusal) → o ≡ record { verdict = Err e; table = t } → result_of o store ≡ refused_with (number_of e) t store
  refused_left o e h = ap (λ (o : Outcome). result_of o store) h

  module _ (s : Update) (b : Body) (i : Iomode) (first last : ℕ) where
    pub does_not_fit : table_edited (change_of s) i first last t ≡ refused 23 → update_result s b i first last t store ≡ refused_with 23 t store
    unfolding update_result stage
    does_not_fit e = rw e refl

    pub is_done : (u : Table) (o : Outcome) (after : List ℕ) → table_edited (change_of s) i first last t ≡ accepted u
        → o ≡ record { verdict = Ok tt; table = u } → after ≡ store_after s b (is_named t) (is_named u) store
        → result_of o after ≡ update_result s b i first last t store
    unfolding update_result stage
    is_done u o after e h k = rw e (λ j. result_of (h j) (k j))

  pub not_allowed : (o : model.Command) (n : ℕ) → decision o.action o.iomode o.first o.last t store ≡ refused n
      → command_result (accepted o) t store ≡ refused_with n t store
  unfolding command_result stage
  not_allowed o n e = rw e refl

  -- only a grant has a body, and only a grant looks at it
  with_body_lem : (d : Action) (b : Body) (i : Iomode) (first last : ℕ) (s : Update) → decision (action_of d b) i first last t store ≡ accepted s
      → update_result s b i first last t store ≡ update_result s (body_granted (action_of d b)) i first last t store
  unfolding update_result recall_decision pick
  with_body_lem action.Grant b i first last s e = refl
  with_body_lem action.Return b i first last s e = rw (← (same_answer e)) refl
  with_body_lem action.Recall b i first last s e = go (table_meets (satisfies Held) i first last t) e
    where
      go : (m : Bool) → pick m (accepted update.Recall) (refused 25) ≡ accepted s
          → update_result s b i first last t store ≡ update_result s (body_granted (action_of action.Recall b)) i first last t store
      go true f = rw (← (same_answer f)) refl
      go false f = never_accepted 25 s f
  with_body_lem action.Revoke b i first last s e = rw (← (same_answer e)) refl

  pub is_allowed : (d : Action) (b : Body) (i : Iomode) (first last len : ℕ) (s : Update) → decision (action_of d b) i first last t store ≡ accepted s
      → update_result s b i first last t store
      ≡ command_result (accepted (record { action = action_of d b; iomode = i; first = first; last = last; len = len })) t store
  unfolding command_result stage
  is_allowed d b i first last len s e = with_body_lem d b i first last s e ∙ rw e refl

  pub is_unsound : (e : Event) → sound t store ≡ false → event_result e t store ≡ refused_with 20 t store
  unfolding event_result pick
  is_unsound e h = rw h refl

  module _ (e : Event) (was-sound : sound t store ≡ true) where
    pub read_refused : (n : ℕ) → read_command e ≡ refused n → event_result e t store ≡ refused_with n t store
    unfolding event_result command_result stage pick
    read_refused n k = rw (was-sound, k) refl

    pub read_accepted : (o : model.Command) → read_command e ≡ accepted o → event_result e t store ≡ command_result (accepted o) t store
    unfolding event_result pick
    read_accepted o k = rw (was-sound, k) refl
