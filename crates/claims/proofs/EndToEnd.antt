-- Where an I/O goes after a list of events, by the rights that the accepted ones give; and that no write goes where a recall is unanswered.
use Prim.Native.Nat.{ℕ, zero, suc, ◌+◌, ◌-◌, ◌≤◌, ◌<◌}
use mathlib.Core.Path.{◌≡◌, refl, sym, ap, ap₂, ◌∙◌}
use mathlib.Core.Bool.{Bool, true, false, ◌&&◌, false≢true}
use mathlib.Core.List.{List, [], ◌∷◌, ◌++◌}
use native.Mathlib.Omega.{arith}
use borrow.Author.Tests.{leb-true}
use lib.Dec.{leb}
use lib.ListN.{length, get_or, replicate}
use Rattle.base.specs.Answer.{Answer, accepted, refused, given, pick}
use Rattle.base.specs.Lists.{Each}
use Rattle.base.specs.Ranges.{last_byte, largest_sum, request_last}
use Rattle.base.proofs.AnswerLaws.{never_accepted}
use Rattle.segments.specs.declared.Table.{Table}
use Rattle.segments.specs.declared.Right.TheVariants.{None}
use Rattle.segments.specs.declared.Segment.{Segment}
use Rattle.segments.specs.Segments.{Mode, READ, RW, blank, empty_table, list_in, right_at}
use Rattle.segments.proofs.Canon.{Ord, at_in, at_past, canon_ord}
use Rattle.store.specs.Store.{Body, body_in, slot_at}
use Rattle.model.specs.Model.{ByteRight, none, granted, recalled, Action, grants, returns, recalls, revokes, Event, Command, after_at, covers, right_after}
use Rattle.model.specs.Claim.{Fits, accepted_of, answered, kept_left, right_given, right_in, store_left}
use Rattle.soundness.proofs.SoundParts.{listed, sounds}
use Rattle.soundness.proofs.FromSound.{in_order_canon}
use Rattle.events.specs.Events.{event_result}
use Rattle.refinement.proofs.Demand.{calls_meet_demand_3}
use Rattle.refinement.proofs.Unchanged.{sound_after}
use Rattle.route.specs.Routes.{iomode_for, routed}
use Rattle.route.specs.Rights.{served_by_rights, served_of}
use Rattle.route.specs.declared.piece.Piece.{Piece}
use Rattle.route.proofs.PieceLaws.{by_parts, piece_in_request, piece_in_segment}
use Rattle.route.proofs.RightsServed.{granted_under, routed_by_rights}
use Rattle.claims.specs.Statements.{grants_byte, is_grant}

-- a request that is in order lies within the file
in_file : (offset len last : ℕ) → request_last offset len ≡ accepted last → offset + len ≤ last_byte
unfolding request_last pick
in_file offset len last e = go (leb 1 len) (leb (offset + len) largest_sum) refl e
  where
    go : (a b : Bool) → leb (offset + len) largest_sum ≡ b → pick a (pick b (accepted (offset + len - 1)) (refused 5)) (refused 5) ≡ accepted last → offset + len ≤ last_byte
    go true true h k = let q : offset + len ≤ largest_sum = leb-true (offset + len) largest_sum h in omega arith
    go true false h k = never_accepted 5 last k
    go false b h k = never_accepted 5 last k

-- ---- the segment at a place of a rising list shows its right at each of its bytes

place_above : (lo : ℕ) (l : List Segment) (k : ℕ) → Ord lo l → k < length l → lo ≤ (get_or l k blank).first
unfolding Ord
place_above lo [] k o h = absurd (omega arith)
place_above lo (s ∷ l) zero o h = o.0
place_above lo (s ∷ l) (suc k) o h = let r = place_above (suc s.last) l k o.3 (omega arith) in let e = o.1 in omega arith

place_shows : (lo : ℕ) (l : List Segment) (k x : ℕ) → Ord lo l → k < length l → (get_or l k blank).first ≤ x → x ≤ (get_or l k blank).last
    → right_at l x ≡ (get_or l k blank).right
unfolding Ord
place_shows lo [] k x o h a b = absurd (omega arith)
place_shows lo (s ∷ l) zero x o h a b = at_in s l x a b
place_shows lo (s ∷ l) (suc k) x o h a b =
    let r = place_above (suc s.last) l k o.3 (omega arith) in
    at_past s l x (omega arith) ∙ place_shows (suc s.last) l k x o.3 (omega arith) a b

module _ (es : List Event) (f : Each Fits es) where
  abbrev T : Table
  T = kept_left event_result es empty_table (replicate 32768 0)

  abbrev S : List ℕ
  S = store_left event_result es empty_table (replicate 32768 0)

  abbrev os : List Command
  os = accepted_of es (answered event_result es empty_table (replicate 32768 0))

  pub io_by_events : (write : Bool) (offset len : ℕ) → given (routed write T S offset len) (λ p. accepted (served_of S p))
      ≡ given (request_last offset len) (λ last. served_by_rights write (right_given os READ offset none) (right_given os RW offset none))
  unfolding given
  io_by_events write offset len = routed_by_rights T S (sound_after es f) write offset len ∙ go (request_last offset len) refl
    where
      right : (m : Mode) → offset ≤ last_byte → right_in T S m offset ≡ right_given os m offset none
      right m h = (calls_meet_demand_3 es f).rights m offset h

      go : (a : Answer ℕ) → request_last offset len ≡ a
          → given a (λ last. served_by_rights write (right_in T S READ offset) (right_in T S RW offset))
          ≡ given a (λ last. served_by_rights write (right_given os READ offset none) (right_given os RW offset none))
      go (accepted last) e =
          let h : offset ≤ last_byte = omega (arith, in_file offset len last e) in
          ap₂ (served_by_rights write) (right READ h) (right RW h)
      go (refused n) e = refl

  -- each byte of an answered piece has the right of the first, in the iomode and under the body of the piece
  pub bytes_by_events : (write : Bool) (offset len : ℕ) (p : Piece) → routed write T S offset len ≡ accepted p
      → (m : Mode) × (p.iomode ≡ iomode_for m) × (write ≡ true → m ≡ RW)
      × ((x : ℕ) → offset ≤ x → x < offset + p.length → right_given os m x none ≡ granted (body_in (slot_at S p.slot.0)))
  bytes_by_events write offset len p e =
      let h = piece_in_segment write T S offset len p e in
      let q = piece_in_request write T S offset len p e in
      let r = by_parts write T S offset len p e in
      let n = in_file offset len r.last r.range in
      let w = sounds T S (sound_after es f) in
      let o = canon_ord 0 None (list_in T h.mode) (in_order_canon (list_in T h.mode) (listed T S w h.mode).rising) in (
        h.mode,
        h.iomode,
        h.in_rw,
        λ x a b.
            let i : x ≤ (get_or (list_in T h.mode) h.index blank).last = omega (arith, h.last, q.0, b) in
            let k : x ≤ last_byte = omega (arith, n, q.1, b) in
            let j : (get_or (list_in T h.mode) h.index blank).first ≤ x = omega (arith, h.first, a) in
            sym ((calls_meet_demand_3 es f).rights h.mode x k)
            ∙ granted_under T S (sound_after es f) h.mode x p.slot (place_shows 0 (list_in T h.mode) h.index x o h.in_list j i ∙ h.right),
      )

-- ---- no write after a recall

abbrev NotGranted : ByteRight → Type 0
NotGranted r = (b : Body) → r ≡ granted b → ⊥

none_granted : NotGranted none
none_granted b e = let z : ◌≡◌ {A = ℕ} 0 1 = cc in omega arith

recalled_granted : (c : Body) → NotGranted (recalled c)
recalled_granted c b e = let z : ◌≡◌ {A = ℕ} 0 1 = cc in omega arith

after_recall : (r : ByteRight) → NotGranted (right_after recalls r)
after_recall none = none_granted
after_recall (granted b) = recalled_granted b
after_recall (recalled b) = recalled_granted b

-- an accepted event that is no grant of the byte leaves it so
after_other : (d : Action) (r : ByteRight) (b : Bool) → (is_grant d && b) ≡ false → NotGranted r → NotGranted (pick b (right_after d r) r)
unfolding pick
after_other d r false h n = n
after_other (grants b) r true h n = absurd (false≢true (sym h))
after_other returns r true h n = none_granted
after_other recalls r true h n = after_recall r
after_other revokes r true h n = none_granted

module _ (m : Mode) (x : ℕ) where
  later_events : (os : List Command) (r : ByteRight) → Each (λ o. grants_byte m x o ≡ false) os → NotGranted r → NotGranted (right_given os m x r)
  unfolding right_given after_at
  later_events [] r h n = n
  later_events (o ∷ os) r h n = later_events os (after_at o m x r) h.1 (after_other o.action r (covers o m x) h.0 n)

  recalled_since : (before : List Command) (o : Command) (after : List Command) (r : ByteRight) → o.action ≡ recalls → covers o m x ≡ true
      → Each (λ o. grants_byte m x o ≡ false) after → NotGranted (right_given (before ++ (o ∷ after)) m x r)
  unfolding right_given after_at pick
  recalled_since [] o after r d c h = later_events after (after_at o m x r) h (rw (c, d) (after_recall r))
  recalled_since (p ∷ before) o after r d c h = recalled_since before o after (after_at p m x r) d c h

pub write_after_recall : (es : List Event) → Each Fits es → (before : List Command) (o : Command) (after : List Command)
    → accepted_of es (answered event_result es empty_table (replicate 32768 0)) ≡ before ++ (o ∷ after) → o.action ≡ recalls
    → (x : ℕ) → covers o RW x ≡ true → Each (λ o. grants_byte RW x o ≡ false) after → (offset len : ℕ) (p : Piece)
    → routed true (kept_left event_result es empty_table (replicate 32768 0)) (store_left event_result es empty_table (replicate 32768 0)) offset len ≡ accepted p
    → offset ≤ x → x < offset + p.length → ⊥
write_after_recall es f before o after e d x c h offset len p k a b =
    let w = bytes_by_events es f true offset len p k in
    let r : right_given (os es f) RW x none ≡ _ = ap (λ (m : Mode). right_given (os es f) m x none) (sym (w.2 refl)) ∙ w.3 x a b in
    recalled_since RW x before o after none d c h _ (ap (λ (l : List Command). right_given l RW x none) (sym e) ∙ r)
