-- A return or a recall of the whole file, and a revoke, never need more segments than there were: they never meet 23.
use Prim.Native.Nat.{ℕ, ◌≤◌, min}
use mathlib.Core.Path.{◌≡◌, refl, ap}
use mathlib.Core.Bool.{Bool, true, false}
use Rattle.std.specs.Prelude.{List, [], Some}
use native.Mathlib.Omega.{arith}
use borrow.Author.Tests.{le-leb}
use lib.Dec.{eqb}
use lib.ListN.{length, length-take}
use Rattle.base.specs.Answer.{Answer, accepted, refused, given, pick}
use Rattle.base.specs.Iomodes.{iomode_of}
use Rattle.base.specs.Lists.{Each}
use Rattle.base.specs.Ranges.{last_byte, range_last, to_the_end}
use Rattle.base.specs.declared.iomode.Iomode.{Iomode}
use Rattle.base.specs.declared.iomode.Iomode.TheVariants.{Read, ReadWrite, Any}
use Rattle.segments.specs.declared.Segments.{Segments}
use Rattle.segments.specs.declared.Table.{Table}
use Rattle.segments.specs.Segments.{Mode, READ, RW, acts_on, in_entries, list_of, segments_for}
use Rattle.lookup.specs.declared.range.Condition.TheVariants.{Held}
use Rattle.lookup.specs.Lookup.{satisfies, table_meets}
use Rattle.table.specs.declared.change.Change.{Change}
use Rattle.table.specs.declared.change.Change.TheVariants as change
use Rattle.table.specs.Edits.{edited, edited_in, edited_where, table_edited}
use Rattle.table.proofs.ChangeLaws.{KeepsNone}
use Rattle.refinement.proofs.WholeEdits.{whole_needs_no_more}
use Rattle.model.specs.Model.{Event, Recall, Return, Revoke, recalls, returns, read_command, range_command}
use Rattle.soundness.specs.Sound.{sound}
use Rattle.soundness.specs.AnyTable.{EndsBy}
use Rattle.soundness.proofs.SoundParts.{listed, sounds}
use Rattle.soundness.proofs.FromSound.{ends_below}
use Rattle.store.specs.Store.{Body}
use Rattle.events.specs.Events.{event_result, update_result, change_of, command_result, recall_decision, refused_with, stage}
use Rattle.events.specs.declared.decision.Update.{Update}
use Rattle.events.specs.declared.decision.Update.TheVariants as update

-- ---- the edit

module _ (c : Change) (z : KeepsNone c) where
  edit_fits : (b : Bool) (g : Segments) → g.count ≤ 32 → Each (EndsBy last_byte) (list_of g) → (h : Segments) × (edited_where b c 0 last_byte g ≡ Some h)
  unfolding edited_in pick
  edit_fits false g few h = (g, refl)
  edit_fits true g few h =
      let k : length (edited c 0 last_byte (list_of g)) ≤ length (list_of g) = whole_needs_no_more c z last_byte (list_of g) (ends_below last_byte (list_of g) h) in
      let n : length (list_of g) ≡ min g.count (length g.items) = length-take g.count g.items in
      let m : length (edited c 0 last_byte (list_of g)) ≤ 32 = omega arith in
      (in_entries (edited c 0 last_byte (list_of g)), rw (le-leb (length (edited c 0 last_byte (list_of g))) 32 m) refl)

  module _ (t : Table) (store : List ℕ) (was-sound : sound t store ≡ true) (read : Each (EndsBy last_byte) (list_of t.read)) (rw_list : Each (EndsBy last_byte) (list_of t.rw)) where
    -- the step that makes this change
    change_accepted : (p : Update) (b : Body) (i : Iomode) → change_of p ≡ c → (update_result p b i 0 last_byte t store).answer ≡ 0
    unfolding update_result table_edited stage pick
    change_accepted p b i e =
        let few : (m : Mode) → (segments_for t m).count ≤ 32 = λ m. (listed t store (sounds t store was-sound) m).few in
        let r = edit_fits (acts_on i READ) t.read (few READ) read in
        let w = edit_fits (acts_on i RW) t.rw (few RW) rw_list in
        rw (e, r.1, w.1) refl

-- ---- the three events

iomode_answer : (number : ℕ) → iomode_of number ≡ refused 23 → ⊥
unfolding iomode_of pick
iomode_answer number = go (eqb number 1) (eqb number 2) (eqb number 3)
  where
    go : (a b c : Bool) → pick a (accepted Read) (pick b (accepted ReadWrite) (pick c (accepted Any) (refused 3))) ≡ refused 23 → ⊥
    go true b c e = let z : ◌≡◌ {A = ℕ} 0 1 = cc in omega arith
    go false true c e = let z : ◌≡◌ {A = ℕ} 0 1 = cc in omega arith
    go false false true e = let z : ◌≡◌ {A = ℕ} 0 1 = cc in omega arith
    go false false false e = let z : ◌≡◌ {A = ℕ} 3 23 = cc in omega arith

module _ (t : Table) (store : List ℕ) (read : Each (EndsBy last_byte) (list_of t.read)) (rw_list : Each (EndsBy last_byte) (list_of t.rw)) where
  -- an event is judged where table and store are sound
  if_sound : (e : Event) → (sound t store ≡ true → (command_result (read_command e) t store).answer ≡ 23 → ⊥) → (event_result e t store).answer ≡ 23 → ⊥
  unfolding event_result pick
  if_sound e h = go (sound t store) h
    where
      go : (b : Bool) → (b ≡ true → (command_result (read_command e) t store).answer ≡ 23 → ⊥) → (pick b (command_result (read_command e) t store) (refused_with 20 t store)).answer ≡ 23 → ⊥
      go true h k = h refl k
      go false h k = omega arith

  pub whole_return : (number : ℕ) → (event_result (Return 0 to_the_end number) t store).answer ≡ 23 → ⊥
  unfolding read_command range_command range_last given pick command_result stage
  whole_return number = if_sound (Return 0 to_the_end number) (λ s. go s (iomode_of number) (iomode_answer number))
    where
      go : sound t store ≡ true → (a : Answer Iomode) → (a ≡ refused 23 → ⊥)
          → (command_result (given a λ i. accepted (record { action = returns; iomode = i; first = 0; last = last_byte; len = to_the_end })) t store).answer ≡ 23 → ⊥
      go s (accepted i) h e = let z = change_accepted change.Clear refl t store s read rw_list update.Clear [] i refl in omega (arith, e, z)
      go s (refused n) h e = h (ap refused e)

  pub whole_recall : (number : ℕ) → (event_result (Recall 0 to_the_end number) t store).answer ≡ 23 → ⊥
  unfolding read_command range_command range_last given pick command_result recall_decision stage
  whole_recall number = if_sound (Recall 0 to_the_end number) (λ s. go s (iomode_of number) (iomode_answer number))
    where
      held : sound t store ≡ true → (i : Iomode) (b : Bool)
          → (stage (pick b (accepted update.Recall) (refused 25)) t store (λ p. update_result p [] i 0 last_byte t store)).answer ≡ 23 → ⊥
      held s i true e = let z = change_accepted change.Recall refl t store s read rw_list update.Recall [] i refl in omega (arith, e, z)
      held s i false e = omega arith

      go : sound t store ≡ true → (a : Answer Iomode) → (a ≡ refused 23 → ⊥)
          → (command_result (given a λ i. accepted (record { action = recalls; iomode = i; first = 0; last = last_byte; len = to_the_end })) t store).answer ≡ 23 → ⊥
      go s (accepted i) h e = held s i (table_meets (satisfies Held) i 0 last_byte t) e
      go s (refused n) h e = h (ap refused e)

  pub whole_revoke : (event_result Revoke t store).answer ≡ 23 → ⊥
  unfolding read_command command_result stage
  whole_revoke =
      if_sound Revoke λ s e.
      let z = change_accepted change.Clear refl t store s read rw_list update.Clear [] Any refl in
      omega (arith, e, z)
