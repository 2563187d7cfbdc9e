-- The stand-ins do not meet demand 3: they fall to a grant of the whole file, one of them with a revoke after it.
use Prim.Native.Nat.{ℕ, zero, suc, ◌<◌}
use mathlib.Core.Path.{◌≡◌, refl, sym, ap, ap₂, ◌∙◌}
use mathlib.Core.Bool.{Bool, true, false, ◌&&◌, and-false, false≢true}
use mathlib.Core.List.{List, [], ◌∷◌}
use native.Mathlib.Omega.{arith}
use borrow.Author.Tests.{le-leb, ltb-true, ne_eqb}
use lib.Dec.{ltb}
use lib.ListN.{get_or, replicate}
use Rattle.base.specs.Answer.{accepted, given, pick}
use Rattle.base.specs.Iomodes.{grant_iomode_of}
use Rattle.base.specs.Lists.{Each}
use Rattle.base.specs.Ranges.{last_byte, range_last, request_last, to_the_end}
use Rattle.base.specs.declared.iomode.Iomode.TheVariants.{Any, ReadWrite}
use Rattle.octets.specs.Numbers.{all_zero, AllBytes, be_bytes, be_from, be_value}
use Rattle.xdr.specs.Parsed.{as_item, many_at, then, whole}
use Rattle.xdr.specs.Items.{bytes_at, count_at, num_at, opaque_at, range_at}
use Rattle.server.specs.Servers.{handles_at, server_head_at, server_at}
use Rattle.layout.specs.Layouts.{front_at, layout_at, layout_body, mirrors_at, tail_at, unit_fits}
use Rattle.layout4.specs.Layout4s.{frame_at, layout4, layout4_at}
use Rattle.segments.specs.declared.Table.{Table}
use Rattle.segments.specs.Segments.{Mode, READ, RW, any_below, empty_table, in_entries, right_at, segments_of}
use Rattle.segments.proofs.Canon.{Below, Canon, at_in, at_none, granted_some}
use Rattle.segments.proofs.Fewest.{scan_only}
use Rattle.segments.proofs.ScanLaws.{any_none}
use Rattle.store.specs.Store.{Body, Slot}
use Rattle.model.specs.Model.{ByteRight, none, granted, Model, Event, Revoke, Command, act, after_at, answer_to, answers, any_byte, rights_and_slots, covers, grant_command, grants, in_slots, meets, model_after, none_empty, read_command, revokes, run, segments_in, slot_of, start, stops21, stops22, has_too_many, verdict, with_slot}
use Rattle.model.specs.Claim.{Calls, Demand3, CallResult, Fits, accepted_of, answered, kept_left, accepted_command, right_given, right_in, store_left}
use Rattle.model.specs.Cases.{body_of, grant_bytes, grant_event, granted_in, servers}
use Rattle.model.specs.StandIns.{changes_nothing, first_only, refuses_all}
use Rattle.model.proofs.Inv.{no_segments}
use Rattle.model.proofs.FromStep.{start_table}

-- ---- at the start the model accepts a grant of every byte

no_byte_met : (N : ℕ) (o : Command) (test : ByteRight → Bool) (M : Model) → ((m : Mode) (x : ℕ) → test (M.right m x) ≡ false) → meets N o test M ≡ false
unfolding meets any_byte
no_byte_met N o test M h = rw (no_bytes READ, no_bytes RW)
  where
    no_bytes : (m : Mode) → any_below (λ x. covers o m x && test (M.right m x)) (suc N) ≡ false
    no_bytes m = any_none (λ x. covers o m x && test (M.right m x)) (suc N) (λ x k. rw (h m x) (and-false (covers o m x)))

module _ (N : ℕ) (b : Body) where
  abbrev every : Command
  every = record { action = grants b; iomode = ReadWrite; first = 0; last = N; len = to_the_end }

  one_segment : (ss : List Slot) → segments_of N (λ x. with_slot ss (after_at every RW x none)) ≡ granted_in (slot_of b ss) 0 N ∷ []
  unfolding Canon Below after_at covers pick
  one_segment ss =
      sym
      (scan_only N (λ x. with_slot ss (after_at every RW x none)) (granted_in (slot_of b ss) 0 N ∷ [])
      (omega arith, omega arith, granted_some _, λ e. granted_some _, tt)
      (omega arith, tt)
      (λ x h. at_in (granted_in (slot_of b ss) 0 N) [] x (omega arith) h ∙ rw (le-leb 0 x (omega arith), le-leb x N h)))

  no_segment : (ss : List Slot) → segments_of N (λ x. with_slot ss (after_at every READ x none)) ≡ []
  unfolding after_at covers pick
  no_segment ss = sym (no_segments N)

  rw_list : segments_in N (act N every start) RW ≡ granted_in (slot_of b (act N every start).slots) 0 N ∷ []
  unfolding segments_in act
  rw_list = one_segment (act N every start).slots

  read_list : segments_in N (act N every start) READ ≡ []
  unfolding segments_in act
  read_list = no_segment (act N every start).slots

  few_segments : has_too_many N (act N every start) ≡ false
  unfolding has_too_many
  few_segments = rw (read_list, rw_list)

  every_byte_granted : verdict N every start ≡ 0
  unfolding verdict in_slots none_empty
  every_byte_granted =
      rw (no_byte_met N every (stops21 (grants b)) start (λ m x. refl), no_byte_met N every (stops22 (grants b)) start (λ m x. refl), few_segments)

-- ---- and always a revoke

module _ (N : ℕ) (M : Model) where
  abbrev nothing : Command
  nothing = record { action = revokes; iomode = Any; first = 0; last = N; len = to_the_end }

  none_right : (ss : List Slot) (m : Mode) → segments_of N (λ x. with_slot ss (after_at nothing m x (M.right m x))) ≡ []
  unfolding Canon Below after_at covers pick
  none_right ss m =
      sym
      (scan_only N (λ x. with_slot ss (after_at nothing m x (M.right m x))) [] tt tt
      (λ x h. at_none x ∙ rw (le-leb 0 x (omega arith), le-leb x N h)))

  no_segment_left : (m : Mode) → segments_in N (act N nothing M) m ≡ []
  unfolding segments_in act
  no_segment_left m = none_right (act N nothing M).slots m

  revoke_accepted : verdict N nothing M ≡ 0
  unfolding verdict has_too_many
  revoke_accepted = rw (no_byte_met N nothing (stops21 revokes) M (λ m x. refl), no_segment_left READ, no_segment_left RW)

-- ---- that grant, in its bytes

unfoldable whole_file : Event
whole_file = grant_event 0 to_the_end 2 0

whole_file_read : read_command whole_file ≡ accepted (record { action = grants (body_of 0 1 0); iomode = ReadWrite; first = 0; last = last_byte; len = to_the_end })
unfolding whole_file read_command grant_command given pick body_of servers grant_bytes be_bytes be_from be_value layout4 layout4_at frame_at range_at range_last request_last grant_iomode_of then as_item whole many_at all_zero bytes_at count_at num_at opaque_at server_head_at handles_at server_at front_at layout_at layout_body mirrors_at tail_at unit_fits
whole_file_read = refl

whole_file_granted : answer_to last_byte (read_command whole_file) start ≡ 0
unfolding answer_to
whole_file_granted = rw whole_file_read (every_byte_granted last_byte (body_of 0 1 0))

whole_file_accepted : answers last_byte (rights_and_slots last_byte) (whole_file ∷ []) start ≡ 0 ∷ []
unfolding answers
whole_file_accepted = ap (λ (n : ℕ). n ∷ []) whole_file_granted

both_accepted : answers last_byte (rights_and_slots last_byte) (whole_file ∷ Revoke ∷ []) start ≡ 0 ∷ 0 ∷ []
unfolding answers answer_to read_command
both_accepted = ap₂ (λ (n k : ℕ). n ∷ k ∷ []) whole_file_granted (revoke_accepted last_byte (model_after last_byte (read_command whole_file) start))

-- each element is a byte, by a test
unfoldable are_bytes : List ℕ → Bool
are_bytes [] = true
are_bytes (b ∷ bs) = ltb b 256 && are_bytes bs

tested_bytes : (bs : List ℕ) → are_bytes bs ≡ true → AllBytes bs
unfolding are_bytes
tested_bytes [] e i = omega arith
tested_bytes (b ∷ bs) e i = go (ltb b 256) refl e i (λ k j. tested_bytes bs k j)
  where
    go : (t : Bool) → ltb b 256 ≡ t → (t && are_bytes bs) ≡ true → (i : ℕ) → (are_bytes bs ≡ true → AllBytes bs) → get_or (b ∷ bs) i 0 < 256
    go true h k zero rest = ltb-true b 256 h
    go true h k (suc i) rest = rest k i
    go false h k i rest = absurd (false≢true k)

whole_file_fits : Each Fits (whole_file ∷ [])
unfolding whole_file grant_bytes body_of servers be_bytes are_bytes
whole_file_fits = (tested_bytes (grant_bytes 0 to_the_end 2 0) refl, tt)

whole_file_revoke_fits : Each Fits (whole_file ∷ Revoke ∷ [])
whole_file_revoke_fits = (whole_file_fits.0, (tt, tt))

-- ---- rights that the events give, and that a table shows

granted_by_it : right_given (accepted_of (whole_file ∷ []) (0 ∷ [])) RW 0 none ≡ granted (body_of 0 1 0)
unfolding right_given accepted_of accepted_command after_at covers pick
granted_by_it = rw whole_file_read refl

revoked_after_it : right_given (accepted_of (whole_file ∷ Revoke ∷ []) (0 ∷ 0 ∷ [])) RW 0 none ≡ none
unfolding right_given accepted_of accepted_command after_at covers pick read_command
revoked_after_it = rw whole_file_read refl

no_right_shown : (t : Table) (store : List ℕ) (x : ℕ) → t.rw.count ≡ 0 → right_in t store RW x ≡ none
unfolding right_in right_at
no_right_shown t store x h = rw h

granted_not_none : (b : Body) → granted b ≡ none → ⊥
granted_not_none b e = let z : ◌≡◌ {A = ℕ} 0 1 = cc in omega arith

-- ---- the stand-ins

module _ {K : Type 0} (table : K → Table) (first : K) where
  -- what meets demand 3 shows no right before any event
  first_empty : (call : Calls K) → Demand3 table first (rights_and_slots last_byte) call → table first ≡ empty_table
  unfolding kept_left run
  first_empty call d = (d [] tt).same_table ∙ start_table last_byte

  -- and the granted one after the grant
  right_shown : (call : Calls K) → Demand3 table first (rights_and_slots last_byte) call
      → right_in (table (kept_left call (whole_file ∷ []) first (replicate 32768 0))) (store_left call (whole_file ∷ []) first (replicate 32768 0)) RW 0
      ≡ granted (body_of 0 1 0)
  right_shown call d =
      let a = d (whole_file ∷ []) whole_file_fits in
      a.rights RW 0 (omega arith)
      ∙ (ap (λ (ns : List ℕ). right_given (accepted_of (whole_file ∷ []) ns) RW 0 none) (a.same_answers ∙ whole_file_accepted) ∙ granted_by_it)

  pub refuses_all_falls : (number : Event → K → List ℕ → ℕ) → ((e : Event) (k : K) (store : List ℕ) → number e k store ≡ 0 → ⊥)
      → Demand3 table first (rights_and_slots last_byte) (refuses_all number) → ⊥
  unfolding answered
  refuses_all_falls number h d =
      h whole_file first (replicate 32768 0) (ap (λ (ns : List ℕ). get_or ns 0 0) ((d (whole_file ∷ []) whole_file_fits).same_answers ∙ whole_file_accepted))

  pub changes_nothing_falls : (call : Calls K) → Demand3 table first (rights_and_slots last_byte) (changes_nothing call) → ⊥
  unfolding kept_left store_left empty_table in_entries
  changes_nothing_falls call d =
      granted_not_none (body_of 0 1 0)
      (sym (right_shown (changes_nothing call) d)
      ∙ no_right_shown (table first) (replicate 32768 0) 0 (ap (λ (t : Table). t.rw.count) (first_empty (changes_nothing call) d)))

  module _ (call later : Calls K) (d : Demand3 table first (rights_and_slots last_byte) (first_only table call later)) where
    -- what the grant leaves
    abbrev after : CallResult K
    after = first_only table call later whole_file first (replicate 32768 0)

    grant_shows : right_in (table after.kept) after.store RW 0 ≡ granted (body_of 0 1 0)
    unfolding kept_left store_left
    grant_shows = right_shown (first_only table call later) d

    second_ignored : first_only table call later Revoke after.kept after.store
        ≡ record { answer = (later Revoke after.kept after.store).answer; kept = after.kept; store = after.store }
    unfolding pick
    second_ignored =
        rw
        (ne_eqb (table after.kept).rw.count 0 (λ e. granted_not_none (body_of 0 1 0) (sym grant_shows ∙ no_right_shown (table after.kept) after.store 0 e)), and-false)

    still_shows : right_in (table (kept_left (first_only table call later) (whole_file ∷ Revoke ∷ []) first (replicate 32768 0))) (store_left (first_only table call later) (whole_file ∷ Revoke ∷ []) first (replicate 32768 0)) RW 0 ≡ granted (body_of 0 1 0)
    unfolding kept_left store_left
    still_shows = ap (λ (l : CallResult K). right_in (table l.kept) l.store RW 0) second_ignored ∙ grant_shows

  pub first_only_falls : (call later : Calls K) → Demand3 table first (rights_and_slots last_byte) (first_only table call later) → ⊥
  first_only_falls call later d =
      let a = d (whole_file ∷ Revoke ∷ []) whole_file_revoke_fits in
      granted_not_none (body_of 0 1 0)
      (sym (still_shows call later d)
      ∙ (a.rights RW 0 (omega arith)
      ∙ (ap (λ (ns : List ℕ). right_given (accepted_of (whole_file ∷ Revoke ∷ []) ns) RW 0 none) (a.same_answers ∙ both_accepted) ∙ revoked_after_it)))
