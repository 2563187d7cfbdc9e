-- The numbers that each event can be answered, on whatever table and store; and that no list of events from the empty table meets 20.
use Prim.Native.Nat.{ℕ}
use mathlib.Core.Path.{◌≡◌, refl, sym, ap, ◌∙◌}
use mathlib.Core.Bool.{Bool, true, false, ◌||◌, false≢true}
use mathlib.Core.List.{List, [], ◌∷◌}
use borrow.Author.Tests.{eqb-true}
use lib.Dec.{eqb}
use lib.ListN.{replicate}
use Rattle.base.specs.Answer.{Answer, accepted, refused, given, pick}
use Rattle.base.specs.Iomodes.{iomode_of}
use Rattle.base.specs.Lists.{Each}
use Rattle.base.specs.Ranges.{last_byte, range_last}
use Rattle.base.specs.declared.iomode.Iomode.{Iomode}
use Rattle.base.specs.declared.iomode.Iomode.TheVariants.{Any}
use Rattle.layout4.specs.Layout4s.{layout4}
use Rattle.std.specs.Prelude.{Option, None, Some}
use Rattle.segments.specs.declared.Segments.{Segments}
use Rattle.segments.specs.declared.Table.{Table}
use Rattle.segments.specs.Segments.{empty_table, list_of}
use Rattle.table.specs.declared.change.Change.{Change}
use Rattle.table.specs.Edits.{both_fit, table_edited}
use Rattle.store.specs.Store.{Body}
use Rattle.slots.specs.declared.choice.SlotChoice.{SlotChoice}
use Rattle.slots.specs.declared.choice.SlotChoice.TheVariants.{Holding, Free, NoneLeft}
use Rattle.model.specs.Model.{Action, returns, recalls, Event, Grant, Return, Recall, Revoke, Model, Command, act, answer_to, answers, rights_and_slots, grant_command, meets, model_after, read_command, range_command, refuse, start, stops21, stops22, stops24, stops25, has_too_many, verdict}
use Rattle.soundness.specs.Sound.{sound}
use Rattle.model.specs.Claim.{CallResult, Fits, answered}
use Rattle.soundness.specs.AnyTable.{EndsBy}
use Rattle.events.specs.Events.{event_result, update_result, grant_under, grant_decision, command_result, recall_decision, refused_with, stage}
use Rattle.events.specs.declared.decision.Update.{Update}
use Rattle.events.specs.declared.decision.Update.TheVariants as update
use Rattle.refinement.proofs.Demand.{calls_meet_demand_3}
use Rattle.refinement.proofs.WholeFile.{whole_revoke}
use Rattle.claims.specs.Statements.{is_one_of}
use Rattle.claims.proofs.BodyRefusals.{layout4_refusals, range_refusals}
use Rattle.claims.proofs.Faults.{RefusalsIn, accepts, all_in, asked, chosen, in_wider, refuses, tested_answer, wider_answer}

-- ---- an event's own bytes and numbers

any_iomode_refusals : (n : ℕ) → RefusalsIn (3 ∷ []) (iomode_of n)
unfolding iomode_of
any_iomode_refusals n = chosen _ accepts (chosen _ accepts (tested_answer _ 3 accepts refl))

-- what bytes and numbers of an event's own can be refused with
abbrev command_numbers : List ℕ
command_numbers = 1 ∷ 2 ∷ 3 ∷ 4 ∷ 5 ∷ 6 ∷ 8 ∷ 9 ∷ 10 ∷ 11 ∷ []

range_command_refusals : (d : Action) (offset len number : ℕ) → RefusalsIn command_numbers (range_command d offset len number)
unfolding range_command
range_command_refusals d offset len number =
    asked (range_refusals offset len) refl λ last.
    asked (any_iomode_refusals number) refl λ iomode.
    accepts

command_refusals : (e : Event) → RefusalsIn command_numbers (read_command e)
unfolding read_command
command_refusals (Grant bytes) = asked (layout4_refusals bytes) refl λ w. accepts
command_refusals (Return offset len number) = range_command_refusals returns offset len number
command_refusals (Recall offset len number) = range_command_refusals recalls offset len number
command_refusals Revoke = accepts

-- ---- answers, on whatever table and store

both_fit_refusals : (r w : Option Segments) → RefusalsIn (23 ∷ []) (both_fit r w)
both_fit_refusals (Some r) (Some w) = accepts
both_fit_refusals (Some r) None = refuses 23 refl
both_fit_refusals None w = refuses 23 refl

-- a call's answer is one of a list
record AnswersIn (ns : List ℕ) (l : CallResult Table) : Type 0 where
  listed : is_one_of l.answer ns ≡ true

either : {ns : List ℕ} (b : Bool) {l k : CallResult Table} → AnswersIn ns l → AnswersIn ns k → AnswersIn ns (pick b l k)
unfolding pick
either true h i = h
either false h i = i

module _ (t : Table) (store : List ℕ) where
  answers_with : {ns : List ℕ} (n : ℕ) → is_one_of n ns ≡ true → AnswersIn ns (refused_with n t store)
  answers_with n h = record { listed = h }

  stage_answers : {A : Type 0} {ns ms : List ℕ} (a : Answer A) (next : A → CallResult Table) → RefusalsIn ms a → all_in ms ns ≡ true
      → ((x : A) → AnswersIn ns (next x)) → AnswersIn ns (stage a t store next)
  unfolding stage
  stage_answers (accepted x) next r i h = h x
  stage_answers {ns = ns} {ms = ms} (refused n) next r i h = answers_with n (in_wider ms ns i n (r.refusal n refl))

  edit_refusals : (c : Change) (i : Iomode) (first last : ℕ) → RefusalsIn (23 ∷ []) (table_edited c i first last t)
  unfolding table_edited
  edit_refusals c i first last = both_fit_refusals _ _

  change_answers : {ns : List ℕ} (p : Update) (b : Body) (i : Iomode) (first last : ℕ) → is_one_of 0 ns ≡ true → all_in (23 ∷ []) ns ≡ true
      → AnswersIn ns (update_result p b i first last t store)
  unfolding update_result
  change_answers p b i first last h j = stage_answers _ _ (edit_refusals _ i first last) j λ u. record { listed = h }

  -- a question to the event's own bytes and numbers, and what follows it
  asked_answers : {A : Type 0} {ns ms : List ℕ} (a : Answer A) (f : A → Answer Command) → RefusalsIn ms a → all_in ms ns ≡ true
      → ((x : A) → AnswersIn ns (command_result (f x) t store)) → AnswersIn ns (command_result (given a f) t store)
  unfolding command_result stage given
  asked_answers (accepted x) f r i h = h x
  asked_answers {ns = ns} {ms = ms} (refused n) f r i h = answers_with n (in_wider ms ns i n (r.refusal n refl))

  range_answers : {ns : List ℕ} (d : Action) (offset len number : ℕ) → all_in (5 ∷ []) ns ≡ true → all_in (3 ∷ []) ns ≡ true
      → ((i : Iomode) (last : ℕ) → AnswersIn ns (command_result (accepted (record { action = d; iomode = i; first = offset; last = last; len = len })) t store))
      → AnswersIn ns (command_result (range_command d offset len number) t store)
  unfolding range_command
  range_answers d offset len number h j k =
      asked_answers (range_last offset len) _ (range_refusals offset len) h λ last.
      asked_answers (iomode_of number) _ (any_iomode_refusals number) j λ i.
      k i last

  -- 20 first
  if_sound : {ns : List ℕ} (e : Event) → is_one_of 20 ns ≡ true → AnswersIn ns (command_result (read_command e) t store) → AnswersIn ns (event_result e t store)
  unfolding event_result
  if_sound e h k = either (sound t store) k (answers_with 20 h)

  abbrev grant_answers : List ℕ
  grant_answers = 0 ∷ 20 ∷ 1 ∷ 2 ∷ 3 ∷ 4 ∷ 5 ∷ 6 ∷ 8 ∷ 9 ∷ 10 ∷ 11 ∷ 21 ∷ 22 ∷ 24 ∷ 23 ∷ []

  choice_refusals : (choice : SlotChoice) → RefusalsIn (24 ∷ []) (grant_under choice)
  choice_refusals (Holding s) = accepts
  choice_refusals (Free s) = accepts
  choice_refusals NoneLeft = refuses 24 refl

  grant_refusals : (choice : SlotChoice) (i : Iomode) (first last : ℕ) → RefusalsIn (21 ∷ 22 ∷ 24 ∷ []) (grant_decision choice i first last t)
  unfolding grant_decision
  grant_refusals choice i first last = chosen _ (refuses 21 refl) (chosen _ (refuses 22 refl) (wider_answer (choice_refusals choice) refl))

  recall_refusals : (i : Iomode) (first last : ℕ) → RefusalsIn (25 ∷ []) (recall_decision i first last t)
  unfolding recall_decision
  recall_refusals i first last = tested_answer _ 25 accepts refl

  pub grant_answers_lem : (bytes : List ℕ) → is_one_of (event_result (Grant bytes) t store).answer grant_answers ≡ true
  unfolding read_command command_result stage grant_command
  grant_answers_lem bytes =
      (if_sound {ns = grant_answers} (Grant bytes) refl
      (asked_answers (layout4 bytes) _ (layout4_refusals bytes) refl λ w.
      stage_answers _ _ (grant_refusals _ w.frame.iomode w.frame.offset w.frame.last) refl λ p. change_answers p _ _ _ _ refl refl)
      ).listed

  pub return_answers : (offset len number : ℕ) → is_one_of (event_result (Return offset len number) t store).answer (0 ∷ 20 ∷ 5 ∷ 3 ∷ 23 ∷ []) ≡ true
  unfolding read_command command_result stage
  return_answers offset len number =
      (if_sound {ns = 0 ∷ 20 ∷ 5 ∷ 3 ∷ 23 ∷ []} (Return offset len number) refl
      (range_answers returns offset len number refl refl λ i last. change_answers update.Clear [] i offset last refl refl)
      ).listed

  pub recall_answers : (offset len number : ℕ) → is_one_of (event_result (Recall offset len number) t store).answer (0 ∷ 20 ∷ 5 ∷ 3 ∷ 25 ∷ 23 ∷ []) ≡ true
  unfolding read_command command_result stage
  recall_answers offset len number =
      (if_sound {ns = 0 ∷ 20 ∷ 5 ∷ 3 ∷ 25 ∷ 23 ∷ []} (Recall offset len number) refl
      (range_answers recalls offset len number refl refl λ i last.
      stage_answers _ _ (recall_refusals i offset last) refl λ p. change_answers p [] i offset last refl refl)
      ).listed

  revoke_change : AnswersIn (0 ∷ 20 ∷ 23 ∷ []) (event_result Revoke t store)
  unfolding read_command command_result stage
  revoke_change = if_sound Revoke refl (change_answers update.Clear [] Any 0 last_byte refl refl)

  pub revoke_answers : Each (EndsBy last_byte) (list_of t.read) → Each (EndsBy last_byte) (list_of t.rw)
      → is_one_of (event_result Revoke t store).answer (0 ∷ 20 ∷ []) ≡ true
  revoke_answers read rw_list = go (event_result Revoke t store).answer revoke_change.listed (whole_revoke t store read rw_list)
    where
      last : (n : ℕ) (a b c : Bool) → eqb n 23 ≡ c → (n ≡ 23 → ⊥) → (a || (b || (c || false))) ≡ true → (a || (b || false)) ≡ true
      last n true b c e k f = refl
      last n false true c e k f = refl
      last n false false true e k f = absurd (k (eqb-true n 23 e))
      last n false false false e k f = f

      go : (n : ℕ) → is_one_of n (0 ∷ 20 ∷ 23 ∷ []) ≡ true → (n ≡ 23 → ⊥) → is_one_of n (0 ∷ 20 ∷ []) ≡ true
      go n h k = last n (eqb n 0) (eqb n 20) (eqb n 23) refl k h

-- ---- lists of events from the empty table

-- a number is one of a list
record Listed (ns : List ℕ) (n : ℕ) : Type 0 where
  listed : is_one_of n ns ≡ true

refuse_listed : {ns : List ℕ} (n : ℕ) (b : Bool) {next : ℕ} → is_one_of n ns ≡ true → Listed ns next → Listed ns (refuse n b next)
refuse_listed n true h k = record { listed = h }
refuse_listed n false h k = k

not_listed : (ns : List ℕ) (n k : ℕ) → is_one_of n ns ≡ true → is_one_of k ns ≡ false → n ≡ k → ⊥
not_listed ns n k h i e = false≢true (sym i ∙ (ap (λ (j : ℕ). is_one_of j ns) (sym e) ∙ h))

module _ (N : ℕ) where
  verdict_listed : (o : Command) (M : Model) → Listed (0 ∷ 21 ∷ 22 ∷ 25 ∷ 24 ∷ 23 ∷ []) (verdict N o M)
  unfolding verdict
  verdict_listed o M =
      refuse_listed 21 (meets N o (stops21 o.action) M) refl
      (refuse_listed 22 (meets N o (stops22 o.action) M) refl
      (refuse_listed 25 (stops25 N o.action o M) refl
      (refuse_listed 24 (stops24 o.action M.slots) refl
      (refuse_listed 23 (has_too_many N (act N o M)) refl (record { listed = refl })))))

  answer_not_20 : (e : Event) (M : Model) → answer_to N (read_command e) M ≡ 20 → ⊥
  unfolding answer_to
  answer_not_20 e M = go (read_command e) refl
    where
      go : (a : Answer Command) → read_command e ≡ a → answer_to N a M ≡ 20 → ⊥
      go (accepted o) p = not_listed (0 ∷ 21 ∷ 22 ∷ 25 ∷ 24 ∷ 23 ∷ []) (verdict N o M) 20 (verdict_listed o M).listed refl
      go (refused n) p = not_listed command_numbers n 20 ((command_refusals e).refusal n p) refl

  answers_not_20 : (es : List Event) (M : Model) → Each (λ n. n ≡ 20 → ⊥) (answers N (rights_and_slots N) es M)
  unfolding answers
  answers_not_20 [] M = tt
  answers_not_20 (e ∷ es) M = (answer_not_20 e M, answers_not_20 es (model_after N (read_command e) M))

pub never_20 : (es : List Event) → Each Fits es → Each (λ n. n ≡ 20 → ⊥) (answered event_result es empty_table (replicate 32768 0))
never_20 es f = rw (calls_meet_demand_3 es f).same_answers (answers_not_20 last_byte es start)
