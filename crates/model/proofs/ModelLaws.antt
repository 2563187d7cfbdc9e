-- The laws of a reference model. By them its right at a byte is the one that the accepted events give, taken in order.
use Prim.Native.Nat.{ℕ, zero, suc}
use mathlib.Core.Path.{◌≡◌, refl, sym, ap, ◌∙◌}
use mathlib.Core.Logic.{◌⊎◌, inl, ⊎_elim}
use mathlib.Core.List.{List, [], ◌∷◌, ◌++◌}
use Rattle.base.specs.Answer.{Answer, accepted, refused}
use Rattle.base.specs.Ranges.{last_byte}
use Rattle.segments.specs.Segments.{Mode}
use Rattle.model.specs.Model.{ByteRight, Event, Model, Command, ReferenceModel, act, after_at, answer_to, answers, rights_and_slots, if_accepted, model_after, read_command, run, start, verdict}
use Rattle.model.specs.Claim.{Fits, accepted_of, accepted_command, right_given}
use Rattle.model.specs.Invariants.{Invariant}

-- ---- what the laws of lists of events ask of a reference model

-- Holds: what holds of what it keeps after every list, beside the invariant of rights and slots
pub record Lawful {L : Type 0} (ref : ReferenceModel L) (Holds : L → Type 0) : Type 0 where
  pub at_first : ref.model ref.first ≡ start
  pub holds_first : Holds ref.first
  -- an event's command is that of its own bytes and numbers, or the event is refused, with a number that is not 0
  pub command_read : (e : Event) (l : L) → (ref.command e l ≡ read_command e) ⊎ ((n : ℕ) × (ref.command e l ≡ refused (suc n)))
  pub model_after_lem : (e : Event) (l : L) → ref.model (ref.next e l) ≡ model_after last_byte (ref.command e l) (ref.model l)
  pub refused_keeps : (e : Event) (l : L) → (answer_to last_byte (ref.command e l) (ref.model l) ≡ 0 → ⊥) → ref.next e l ≡ l
  pub holds_after : (e : Event) (l : L) → Fits e → Invariant last_byte (ref.model l) → Holds l → Holds (ref.next e l)

pub refused_still : (N : ℕ) (a : Answer Command) (M : Model) → (answer_to N a M ≡ 0 → ⊥) → model_after N a M ≡ M
unfolding model_after answer_to
refused_still N (refused n) M h = refl
refused_still N (accepted o) M h = go (verdict N o M) h
  where
    go : (n : ℕ) → (n ≡ 0 → ⊥) → if_accepted n (act N o M) M ≡ M
    go zero k = absurd (k refl)
    go (suc n) k = refl

pub plain_lawful : Lawful (rights_and_slots last_byte) (λ M. Unit {0})
plain_lawful = record {
  at_first = refl;
  holds_first = tt;
  command_read = λ e M. inl refl;
  model_after_lem = λ e M. refl;
  refused_keeps = λ e M h. refused_still last_byte (read_command e) M h;
  holds_after = λ e M f v h. tt;
}

-- ---- rights

given_append : (os ps : List Command) (m : Mode) (x : ℕ) (r : ByteRight) → right_given (os ++ ps) m x r ≡ right_given ps m x (right_given os m x r)
unfolding right_given
given_append [] ps m x r = refl
given_append (o ∷ os) ps m x r = given_append os ps m x (after_at o m x r)

-- an answer to a command
pub right_after_lem : (N : ℕ) (a : Answer Command) (M : Model) (m : Mode) (x : ℕ)
    → (model_after N a M).right m x ≡ right_given (accepted_command a (answer_to N a M)) m x (M.right m x)
unfolding model_after answer_to accepted_command right_given act
right_after_lem N (accepted o) M m x = go (verdict N o M)
  where
    go : (n : ℕ) → (if_accepted n (act N o M) M).right m x ≡ right_given (if_accepted n (o ∷ []) []) m x (M.right m x)
    go zero = refl
    go (suc n) = refl
right_after_lem N (refused n) M m x = refl

-- a refused event has no command
nothing_accepted : (a : Answer Command) (n : ℕ) → accepted_command a (suc n) ≡ []
unfolding accepted_command
nothing_accepted (accepted o) n = refl
nothing_accepted (refused k) n = refl

module _ {L : Type 0} {ref : ReferenceModel L} {Holds : L → Type 0} (good : Lawful ref Holds) where
  same_command : (e : Event) (l : L) (M : Model)
      → accepted_command (ref.command e l) (answer_to last_byte (ref.command e l) M) ≡ accepted_command (read_command e) (answer_to last_byte (ref.command e l) M)
  unfolding accepted_command answer_to
  same_command e l M =
      ⊎_elim (λ s. ap (λ (a : Answer Command). accepted_command a (answer_to last_byte (ref.command e l) M)) s)
      (λ r. rw r.1 (sym (nothing_accepted (read_command e) r.0)))
      (good.command_read e l)

  -- one event
  event_right : (e : Event) (l : L) (m : Mode) (x : ℕ)
      → (ref.model (ref.next e l)).right m x
      ≡ right_given (accepted_command (read_command e) (answer_to last_byte (ref.command e l) (ref.model l))) m x ((ref.model l).right m x)
  event_right e l m x =
      let M = ref.model l in
      ap (λ (X : Model). X.right m x) (good.model_after_lem e l)
      ∙ (right_after_lem last_byte (ref.command e l) M m x ∙ ap (λ (os : List Command). right_given os m x (M.right m x)) (same_command e l M))

  -- a list of events
  pub run_right : (es : List Event) (l : L) (m : Mode) (x : ℕ)
      → (ref.model (run ref es l)).right m x ≡ right_given (accepted_of es (answers last_byte ref es l)) m x ((ref.model l).right m x)
  unfolding run answers accepted_of right_given
  run_right [] l m x = refl
  run_right (e ∷ es) l m x =
      let os = accepted_of es (answers last_byte ref es (ref.next e l)) in
      run_right es (ref.next e l) m x
      ∙ (ap (right_given os m x) (event_right e l m x)
      ∙ sym (given_append (accepted_command (read_command e) (answer_to last_byte (ref.command e l) (ref.model l))) os m x ((ref.model l).right m x)))
