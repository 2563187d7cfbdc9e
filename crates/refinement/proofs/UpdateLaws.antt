-- What the calls make of an event on the model's table and store is what the model makes of it.
use Prim.Native.Nat.{ℕ, suc, ◌≤◌}
use mathlib.Core.Path.{◌≡◌, refl, sym, ap, ◌∙◌}
use mathlib.Core.Bool.{Bool, true, false, not, ◌&&◌, false≢true, and-false}
use mathlib.Core.List.{List, []}
use borrow.Author.Tests.{eq-eqb, ne_eqb}
use lib.Dec.{eqb}
use Rattle.base.specs.Answer.{Answer, accepted, refused, pick}
use Rattle.base.specs.declared.iomode.Iomode.{Iomode}
use Rattle.octets.specs.Numbers.{same_bytes}
use Rattle.octets.proofs.SameLaws.{same_not, same_other, same_true}
use Rattle.segments.specs.declared.Table.{Table}
use Rattle.segments.specs.Segments.{Mode, READ, RW, any_below, is_named}
use Rattle.segments.proofs.ScanLaws.{any_none}
use Rattle.lookup.specs.declared.range.Condition.TheVariants.{Held, HeldElsewhere, Recalled}
use Rattle.lookup.specs.Lookup.{satisfies, table_meets}
use Rattle.table.specs.declared.change.Change.TheVariants as change
use Rattle.table.specs.declared.change.Change.{Change}
use Rattle.table.specs.Edits.{table_edited}
use Rattle.store.specs.Store.{Body, Slot, holds, slot_set, store_of}
use Rattle.model.specs.Claim.{CallResult}
use Rattle.model.specs.Model.{ByteRight, none, granted, recalled, Model, Command, Action, grants, returns, recalls, revokes, act, any_byte, covers, if_accepted, in_slots, is_held, is_recalled, meets, none_empty, placed, refuse, slot_of, stops21, stops22, stops24, stops25, table_of, has_too_many, verdict, with_slot}
use Rattle.model.proofs.ModelSlotLaws.{same_number}
use Rattle.model.specs.Invariants.{GoodBody, InSlot, Invariant}
use Rattle.model.proofs.Inv.{GoodAction, Passes, act_keeps}
use Rattle.model.proofs.Decode.{slots_back, whole}
use Rattle.store.proofs.SlotLaws.{length_slot}
use Rattle.store.proofs.StoreLaws.{set_slot}
use Rattle.slots.specs.Slots.{cleared_from, free_choice, slot_choice, lowest_empty}
use Rattle.slots.specs.declared.choice.SlotChoice.TheVariants.{Holding, Free, NoneLeft}
use Rattle.slots.proofs.ClearLaws.{cleared_store, cleared_slots}
use Rattle.slots.proofs.ChoiceLaws.{lowest_is_in, lowest_of, lowest_set}
use Rattle.events.specs.Events as calls
use Rattle.events.specs.Events.{update_result, other_body, command_result, stage, store_after}
use Rattle.events.specs.declared.decision.Update.{Update}
use Rattle.events.specs.declared.decision.Update.TheVariants as update
use Rattle.refinement.proofs.EditLaws.{edit_model}
use Rattle.refinement.proofs.RightLaws.{ChoiceIs, change_for, rights_agree}
use Rattle.refinement.proofs.StoreUpdates.{slots_cleared, slots_kept}
use Rattle.refinement.proofs.TestLaws.{meets_model}

-- ---- tests

never_met : (N : ℕ) (o : Command) (test : ByteRight → Bool) (M : Model) → ((r : ByteRight) → test r ≡ false) → meets N o test M ≡ false
unfolding meets any_byte
never_met N o test M h =
    let one : (m : Mode) → any_below (λ x. covers o m x && test (M.right m x)) (suc N) ≡ false =
    λ m. any_none (λ x. covers o m x && test (M.right m x)) (suc N) (λ x k. rw (h (M.right m x)) (and-false (covers o m x))) in
    rw (one READ, one RW)

held_shown : (ss : List Slot) (r : ByteRight) → satisfies Held (with_slot ss r) ≡ is_held r
held_shown ss none = refl
held_shown ss (granted b) = refl
held_shown ss (recalled b) = refl

recalled_shown : (ss : List Slot) (r : ByteRight) → satisfies Recalled (with_slot ss r) ≡ is_recalled r
recalled_shown ss none = refl
recalled_shown ss (granted b) = refl
recalled_shown ss (recalled b) = refl

-- slot numbers are equal where bodies are
same_slots : (ss : List Slot) (b c : Body) → in_slots b ss ≡ true → in_slots c ss ≡ true → eqb (slot_of c ss) (slot_of b ss) ≡ same_bytes b c
same_slots ss b c h k = go (same_bytes b c) refl
  where
    go : (t : Bool) → same_bytes b c ≡ t → eqb (slot_of c ss) (slot_of b ss) ≡ t
    go true e = eq-eqb _ _ (ap (λ (x : Body). slot_of x ss) (sym (same_true b c e)))
    go false e = ne_eqb _ _ (λ p. same_not b c e (sym (same_number c b ss k h p)))

other_shown : (ss : List Slot) (b : Body) (r : ByteRight) → in_slots b ss ≡ true → InSlot ss r
    → satisfies (HeldElsewhere (record { 0 = slot_of b ss })) (with_slot ss r) ≡ stops21 (grants b) r
other_shown ss b none h k = refl
other_shown ss b (granted c) h k = ap not (same_slots ss b c h k)
other_shown ss b (recalled c) h k = ap not (same_slots ss b c h k)

not_in : (ss : List Slot) (b c : Body) → in_slots b ss ≡ false → in_slots c ss ≡ true → same_bytes b c ≡ false
not_in ss b c h k = same_other b c (λ e. false≢true (sym h ∙ (ap (λ (x : Body). in_slots x ss) e ∙ k)))

new_shown : (ss : List Slot) (b : Body) (r : ByteRight) → in_slots b ss ≡ false → InSlot ss r → satisfies Held (with_slot ss r) ≡ stops21 (grants b) r
new_shown ss b none h k = refl
new_shown ss b (granted c) h k = rw (not_in ss b c h k)
new_shown ss b (recalled c) h k = rw (not_in ss b c h k)

-- ---- the change

-- what an event that is answered n leaves
abbrev pub ended : ℕ → Command → Model → ℕ → CallResult Table
ended N o M n = record { answer = n; kept = table_of N (if_accepted n (act N o M) M); store = store_of (if_accepted n (act N o M) M).slots }

module _ (N : ℕ) (M : Model) (o : Command) (v : Invariant N M) (good : GoodAction o.action) (rising : o.first ≤ o.last) (ends : o.last ≤ N) where
  -- what an update leaves, where its change is the command's and it leaves the model's store; s: the slot of a grant's body
  updated_model : (p : Update) (b : Body) (s : ℕ) → calls.change_of p ≡ change_for o.action s → ChoiceIs o.action M.slots s
      → (has_too_many N (act N o M) ≡ false → store_after p b (is_named (table_of N M)) (is_named (table_of N (act N o M))) (store_of M.slots) ≡ store_of (act N o M).slots)
      → update_result p b o.iomode o.first o.last (table_of N M) (store_of M.slots) ≡ ended N o M (refuse 23 (has_too_many N (act N o M)) 0)
  unfolding update_result stage pick
  updated_model p b s same choice stored =
      let next : Table → CallResult Table = λ u. record { answer = 0; kept = u; store = store_after p b (is_named (table_of N M)) (is_named u) (store_of M.slots) } in
      ap (λ (c : Change). stage (table_edited c o.iomode o.first o.last (table_of N M)) (table_of N M) (store_of M.slots) next) same
      ∙ (ap (λ (a : Answer Table). stage a (table_of N M) (store_of M.slots) next)
      (edit_model N M o (change_for o.action s) rising ends v.few (λ m x k. rights_agree N M o s choice m x k (v.in_slot m x k)))
      ∙ go (has_too_many N (act N o M)) stored)
    where
      go : (t : Bool) → (t ≡ false → store_after p b (is_named (table_of N M)) (is_named (table_of N (act N o M))) (store_of M.slots) ≡ store_of (act N o M).slots)
          → stage (pick t (refused 23) (accepted (table_of N (act N o M)))) (table_of N M) (store_of M.slots)
          (λ u. record { answer = 0; kept = u; store = store_after p b (is_named (table_of N M)) (is_named u) (store_of M.slots) })
          ≡ ended N o M (refuse 23 t 0)
      go true h = refl
      go false h = λ i. record { answer = 0; kept = table_of N (act N o M); store = h refl i }

  -- a clear stores no body, and zeroes what the table no longer names
  store_cleared : placed o.action M.slots ≡ M.slots → Passes N o M
      → cleared_from (is_named (table_of N M)) (is_named (table_of N (act N o M))) 8 0 (store_of M.slots) ≡ store_of (act N o M).slots
  store_cleared e p =
      let was : ℕ → Bool = is_named (table_of N M) in
      let is : ℕ → Bool = is_named (table_of N (act N o M)) in
      ap (λ (k : ℕ). cleared_from was is k 0 (store_of M.slots)) (sym v.eight)
      ∙ (cleared_store was is [] M.slots (whole N M v)
      ∙ ap store_of (ap (cleared_slots was is 0) (sym e) ∙ slots_cleared N M o v (act_keeps N o M good p v) rising ends))

-- ---- each action

module _ (N : ℕ) (M : Model) (v : Invariant N M) (i : Iomode) (first last len : ℕ) (rising : first ≤ last) (ends : last ≤ N) where
  command : Action → Command
  command d = record { action = d; iomode = i; first = first; last = last; len = len }

  -- an action that clears meets 23 alone
  was_cleared : (d : Action) → GoodAction d → ChoiceIs d M.slots 0 → change_for d 0 ≡ change.Clear → placed d M.slots ≡ M.slots
      → ((r : ByteRight) → stops21 d r ≡ false) → ((r : ByteRight) → stops22 d r ≡ false)
      → stops25 N d (command d) M ≡ false → stops24 d M.slots ≡ false
      → update_result update.Clear [] i first last (table_of N M) (store_of M.slots) ≡ ended N (command d) M (verdict N (command d) M)
  unfolding verdict command
  was_cleared d good choice clears still h21 h22 h25 h24 =
      let a = never_met N (command d) (stops21 d) M h21 in
      let b = never_met N (command d) (stops22 d) M h22 in
      let q : verdict N (command d) M ≡ refuse 23 (has_too_many N (act N (command d) M)) 0 = all_false _ _ _ _ _ a b h25 h24 in
      updated_model N M (command d) v good rising ends update.Clear [] 0 (sym clears) choice
      (λ h. store_cleared N M (command d) v good rising ends still (record { not_21 = a; not_22 = b; not_25 = h25; not_24 = h24; not_23 = h }))
      ∙ ap (ended N (command d) M) (sym q)
    where
      all_false : (a b c d : Bool) (n : ℕ) → a ≡ false → b ≡ false → c ≡ false → d ≡ false → refuse 21 a (refuse 22 b (refuse 25 c (refuse 24 d n))) ≡ n
      all_false a b c d n e f g h = rw (e, f, g, h)

  was_recalled : command_result (accepted (command recalls)) (table_of N M) (store_of M.slots) ≡ ended N (command recalls) M (verdict N (command recalls) M)
  unfolding verdict command command_result stage calls.recall_decision pick
  was_recalled =
      let a = never_met N (command recalls) (stops21 recalls) M (λ r. refl) in
      let b = never_met N (command recalls) (stops22 recalls) M (λ r. refl) in
      let held = meets_model N M (command recalls) (satisfies Held) is_held rising refl (λ m x k. held_shown M.slots (M.right m x)) in
      rw (a, held) (go a (meets N (command recalls) is_held M))
    where
      go : meets N (command recalls) (stops21 recalls) M ≡ false → (t : Bool)
          → stage (pick t (accepted update.Recall) (refused 25)) (table_of N M) (store_of M.slots)
          (λ s. update_result s [] i first last (table_of N M) (store_of M.slots))
          ≡ ended N (command recalls) M (refuse 25 (not t) (refuse 23 (has_too_many N (act N (command recalls) M)) 0))
      go a true =
          updated_model N M (command recalls) v tt rising ends update.Recall [] 0 refl tt
          (λ h. ap store_of (sym (slots_kept N M (command recalls) v rising ends refl a)))
      go a false = refl

  -- a grant of a body that is in a slot, and of one that takes the lowest empty slot
  module _ (b : Body) (good : GoodBody b) where
    -- 21 by slot numbers
    other_met : table_meets (satisfies (other_body (slot_choice b M.slots))) i first last (table_of N M) ≡ meets N (command (grants b)) (stops21 (grants b)) M
    unfolding slot_choice free_choice pick command
    other_met = go (in_slots b M.slots) (none_empty M.slots) refl refl
      where
        go : (t u : Bool) → in_slots b M.slots ≡ t → none_empty M.slots ≡ u
            → table_meets (satisfies (other_body (pick t (Holding (record { 0 = slot_of b M.slots })) (pick u NoneLeft (Free (record { 0 = lowest_empty M.slots })))))) i first last (table_of N M)
            ≡ meets N (command (grants b)) (stops21 (grants b)) M
        go true u e f =
            meets_model N M (command (grants b)) (satisfies (HeldElsewhere (record { 0 = slot_of b M.slots }))) (stops21 (grants b)) rising refl
            (λ m x k. other_shown M.slots b (M.right m x) e (v.in_slot m x k))
        go false true e f =
            meets_model N M (command (grants b)) (satisfies Held) (stops21 (grants b)) rising refl (λ m x k. new_shown M.slots b (M.right m x) e (v.in_slot m x k))
        go false false e f =
            meets_model N M (command (grants b)) (satisfies Held) (stops21 (grants b)) rising refl (λ m x k. new_shown M.slots b (M.right m x) e (v.in_slot m x k))

    recalled_met : table_meets (satisfies Recalled) i first last (table_of N M) ≡ meets N (command (grants b)) (stops22 (grants b)) M
    unfolding command
    recalled_met = meets_model N M (command (grants b)) (satisfies Recalled) (stops22 (grants b)) rising refl (λ m x k. recalled_shown M.slots (M.right m x))

    -- 24 and 23; the store of the slots with the body placed is the model's, since a grant that passes 21 takes no name away
    module _ (h21 : meets N (command (grants b)) (stops21 (grants b)) M ≡ false) where
      granted_as : (p : Update) (s : ℕ) → calls.change_of p ≡ change.Grant (record { 0 = s }) → slot_of b (placed (grants b) M.slots) ≡ s
          → store_after p b (is_named (table_of N M)) (is_named (table_of N (act N (command (grants b)) M))) (store_of M.slots) ≡ store_of (placed (grants b) M.slots)
          → update_result p b i first last (table_of N M) (store_of M.slots) ≡ ended N (command (grants b)) M (refuse 23 (has_too_many N (act N (command (grants b)) M)) 0)
      unfolding command
      granted_as p s same choice stored =
          updated_model N M (command (grants b)) v good rising ends p b s same choice
          (λ h. stored ∙ ap store_of (sym (slots_kept N M (command (grants b)) v rising ends refl h21)))

      placed_at : stage (calls.grant_under (slot_choice b M.slots)) (table_of N M) (store_of M.slots) (λ s. update_result s b i first last (table_of N M) (store_of M.slots))
          ≡ ended N (command (grants b)) M (refuse 24 (stops24 (grants b) M.slots) (refuse 23 (has_too_many N (act N (command (grants b)) M)) 0))
      unfolding command slot_choice free_choice stage pick
      placed_at = go (in_slots b M.slots) (none_empty M.slots) refl refl
        where
          known : in_slots b M.slots ≡ true → placed (grants b) M.slots ≡ M.slots
          known e = rw e

          new : in_slots b M.slots ≡ false → none_empty M.slots ≡ false
              → slot_set (store_of M.slots) (lowest_empty M.slots) (holds b) ≡ store_of (placed (grants b) M.slots)
          new e f =
              rw (e)
              (set_slot M.slots (lowest_empty M.slots) (holds b) (whole N M v) (length_slot b good.small) (lowest_is_in M.slots f)
              ∙ ap store_of (lowest_set b M.slots))

          go : (t u : Bool) → in_slots b M.slots ≡ t → none_empty M.slots ≡ u
              → stage (calls.grant_under (pick t (Holding (record { 0 = slot_of b M.slots })) (pick u NoneLeft (Free (record { 0 = lowest_empty M.slots })))))
              (table_of N M) (store_of M.slots) (λ s. update_result s b i first last (table_of N M) (store_of M.slots))
              ≡ ended N (command (grants b)) M (refuse 24 (not t && u) (refuse 23 (has_too_many N (act N (command (grants b)) M)) 0))
          go true u e f =
              granted_as (update.GrantKnown (record { 0 = slot_of b M.slots })) (slot_of b M.slots) refl (ap (slot_of b) (known e)) (ap store_of (sym (known e)))
          go false true e f = refl
          go false false e f =
              granted_as (update.GrantNew (record { 0 = lowest_empty M.slots })) (lowest_empty M.slots) refl (rw e (lowest_of b M.slots e f)) (new e f)

    was_granted : command_result (accepted (command (grants b))) (table_of N M) (store_of M.slots) ≡ ended N (command (grants b)) M (verdict N (command (grants b)) M)
    unfolding verdict command command_result calls.grant_decision stage pick
    was_granted =
        rw (slots_back N M v, other_met, recalled_met)
        (go (meets N (command (grants b)) (stops21 (grants b)) M) (meets N (command (grants b)) (stops22 (grants b)) M) placed_at)
      where
        next : Update → CallResult Table
        next s = update_result s b i first last (table_of N M) (store_of M.slots)

        go : (t u : Bool) → (t ≡ false
            → stage (calls.grant_under (slot_choice b M.slots)) (table_of N M) (store_of M.slots) next
            ≡ ended N (command (grants b)) M (refuse 24 (stops24 (grants b) M.slots) (refuse 23 (has_too_many N (act N (command (grants b)) M)) 0)))
            → stage (pick t (refused 21) (pick u (refused 22) (calls.grant_under (slot_choice b M.slots)))) (table_of N M) (store_of M.slots) next
            ≡ ended N (command (grants b)) M (refuse 21 t (refuse 22 u (refuse 24 (stops24 (grants b) M.slots) (refuse 23 (has_too_many N (act N (command (grants b)) M)) 0))))
        go true u h = refl
        go false true h = refl
        go false false h = h refl

pub command_met : (N : ℕ) (M : Model) (o : Command) → Invariant N M → GoodAction o.action → o.first ≤ o.last → o.last ≤ N
    → command_result (accepted o) (table_of N M) (store_of M.slots) ≡ ended N o M (verdict N o M)
unfolding command command_result stage
command_met N M o v good rising ends = go o.action good
  where
    same : Action → Command
    same d = record { action = d; iomode = o.iomode; first = o.first; last = o.last; len = o.len }

    go : (d : Action) → GoodAction d → command_result (accepted (same d)) (table_of N M) (store_of M.slots) ≡ ended N (same d) M (verdict N (same d) M)
    go (grants b) g = was_granted N M v o.iomode o.first o.last o.len rising ends b g
    go returns g = was_cleared N M v o.iomode o.first o.last o.len rising ends returns tt tt refl refl (λ r. refl) (λ r. refl) refl refl
    go recalls g = was_recalled N M v o.iomode o.first o.last o.len rising ends
    go revokes g = was_cleared N M v o.iomode o.first o.last o.len rising ends revokes tt tt refl refl (λ r. refl) (λ r. refl) refl refl
