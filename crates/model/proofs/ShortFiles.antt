-- What the model makes of a list of events on a short file it makes of it on a longer one, where no grant goes past the short file's end: so the worked
-- examples, which are computed for short files, hold for a file of 2^64 bytes.
use Prim.Native.Nat.{ℕ, zero, suc, ◌≤◌, ◌<◌}
use mathlib.Core.Path.{◌≡◌, refl, sym, ap, ap₂, ◌∙◌}
use mathlib.Core.Bool.{Bool, true, false, not, ◌&&◌, ◌||◌, and-false, false≢true}
use mathlib.Core.List.{List, [], ◌∷◌, map}
use native.Mathlib.Omega.{arith}
use native.Mathlib.Decide.{dec_le}
use borrow.Author.Tests.{leb-true, lt-leb}
use lib.Dec.{leb, ltb}
use lib.ListN.{length}
use Rattle.base.specs.Answer.{Answer, accepted, refused, pick}
use Rattle.base.proofs.AnswerLaws.{both, same_tests}
use Rattle.segments.specs.declared.Right.{Right}
use Rattle.segments.specs.declared.Right.TheVariants.{None}
use Rattle.segments.specs.declared.Segment.{Segment}
use Rattle.segments.specs.Segments.{Mode, READ, RW, acts_on, any_below, right_at, segments_of, within}
use Rattle.segments.proofs.Canon.{below_more}
use Rattle.segments.proofs.Fewest.{scan_only}
use Rattle.segments.proofs.ScanLaws.{any_found, any_some, segments_below, segments_canon, segments_past, segments_show}
use Rattle.store.specs.Store.{Slot, empty, holds}
use Rattle.model.specs.Model.{ByteRight, none, Action, grants, returns, recalls, revokes, Event, Model, Command, act, after_at, answer_to, answers, any_byte, rights_and_slots, covers, if_accepted, if_named, is_held, is_under, meets, model_after, read_command, placed, right_after, run, segments_in, start, stops21, stops22, stops25, has_too_many, verdict, with_slot}

-- no grant past byte N
unfoldable pub stays_in : ℕ → Action → ℕ → Bool
stays_in N (grants b) last = leb last N
stays_in N returns last = true
stays_in N recalls last = true
stays_in N revokes last = true

unfoldable pub stays : ℕ → Answer Command → Bool
stays N (accepted o) = stays_in N o.action o.last
stays N (refused n) = true

unfoldable pub all_stay : ℕ → List Event → Bool
all_stay N [] = true
all_stay N (e ∷ es) = stays N (read_command e) && all_stay N es

module _ (N L : ℕ) (longer : N ≤ L) where
  any_longer : (p : ℕ → Bool) → ((x : ℕ) → N < x → x ≤ L → p x ≡ false) → any_below p (suc N) ≡ any_below p (suc L)
  any_longer p q = same_tests (any_below p (suc N)) (any_below p (suc L)) to from
    where
      to : any_below p (suc N) ≡ true → any_below p (suc L) ≡ true
      to e = let r = any_found p (suc N) e in let k = r.1 in any_some p (suc L) r.0 (omega arith) r.2

      from : any_below p (suc L) ≡ true → any_below p (suc N) ≡ true
      from e = let r = any_found p (suc L) e in go r (dec_le r.0 N)
        where
          go : (r : (x : ℕ) × (x < suc L) × (p x ≡ true)) → Dec (r.0 ≤ N) → any_below p (suc N) ≡ true
          go r (yes d) = any_some p (suc N) r.0 (omega arith) r.2
          go r (no d) = let k = r.1 in absurd (false≢true (sym (q r.0 (omega arith) (omega arith)) ∙ r.2))

  segments_longer : (f : ℕ → Right) → ((x : ℕ) → N < x → x ≤ L → f x ≡ None) → segments_of N f ≡ segments_of L f
  segments_longer f q =
      scan_only L f (segments_of N f) (segments_canon N f) (below_more (suc N) (suc L) (segments_of N f) (omega arith) (segments_below N f)) (λ x h. go x h (dec_le x N))
    where
      go : (x : ℕ) → x ≤ L → Dec (x ≤ N) → right_at (segments_of N f) x ≡ f x
      go x h (yes d) = segments_show N f x d
      go x h (no d) = segments_past N f x (omega arith) ∙ sym (q x (omega arith) h)

  -- nothing is held past byte N
  abbrev Quiet : (Mode → ℕ → ByteRight) → Type 0
  Quiet right = (m : Mode) (x : ℕ) → N < x → x ≤ L → right m x ≡ none

  byte_longer : (p : Mode → ℕ → Bool) → ((m : Mode) (x : ℕ) → N < x → x ≤ L → p m x ≡ false) → any_byte N p ≡ any_byte L p
  unfolding any_byte
  byte_longer p q = ap₂ (λ (a b : Bool). a || b) (any_longer (p READ) (q READ)) (any_longer (p RW) (q RW))

  meets_longer : (o : Command) (test : ByteRight → Bool) (M : Model) → test none ≡ false → Quiet M.right → meets N o test M ≡ meets L o test M
  unfolding meets
  meets_longer o test M f q = byte_longer (λ m x. covers o m x && test (M.right m x)) (λ m x h k. rw (q m x h k, f) (and-false (covers o m x)))

  named_longer : (right : Mode → ℕ → ByteRight) (ss : List Slot) → Quiet right → map (if_named N right) ss ≡ map (if_named L right) ss
  unfolding if_named
  named_longer right [] q = refl
  named_longer right (empty ∷ ss) q = ap {B = List Slot} (λ l. empty ∷ l) (named_longer right ss q)
  named_longer right (holds b ∷ ss) q =
      ap₂ {C = List Slot} (λ (t : Bool) (l : List Slot). pick t (holds b) empty ∷ l)
      (byte_longer (λ m x. is_under b (right m x)) (λ m x h k. ap (is_under b) (q m x h k))) (named_longer right ss q)

  pick_same : (t : Bool) → pick t none none ≡ none
  unfolding pick
  pick_same true = refl
  pick_same false = refl

  -- a command that grants nothing past byte N leaves nothing held there
  none_after : (d : Action) (i : Mode → Bool) (first last : ℕ) (m : Mode) (x : ℕ) → stays_in N d last ≡ true → N < x
      → pick (i m && within first last x) (right_after d none) none ≡ none
  unfolding stays_in pick
  none_after (grants b) i first last m x s h =
      let k : last ≤ N = leb-true last N s in
      rw (lt-leb x last (omega arith), and-false (leb first x), and-false (i m))
  none_after returns i first last m x s h = pick_same (i m && within first last x)
  none_after recalls i first last m x s h = pick_same (i m && within first last x)
  none_after revokes i first last m x s h = pick_same (i m && within first last x)

  after_quiet : (o : Command) (M : Model) → stays_in N o.action o.last ≡ true → Quiet M.right → Quiet (λ m x. after_at o m x (M.right m x))
  unfolding after_at covers
  after_quiet o M s q m x h k =
      ap (λ (r : ByteRight). pick (acts_on o.iomode m && within o.first o.last x) (right_after o.action r) r) (q m x h k)
      ∙ none_after o.action (acts_on o.iomode) o.first o.last m x s h

  act_longer : (o : Command) (M : Model) → stays_in N o.action o.last ≡ true → Quiet M.right → act N o M ≡ act L o M
  unfolding act
  act_longer o M s q =
      let right : Mode → ℕ → ByteRight = λ m x. after_at o m x (M.right m x) in
      λ i. record { right = right; slots = named_longer right (placed o.action M.slots) (after_quiet o M s q) i }

  act_quiet : (o : Command) (M : Model) → stays_in N o.action o.last ≡ true → Quiet M.right → Quiet (act N o M).right
  unfolding act
  act_quiet o M s q = after_quiet o M s q

  pub segments_alike : (M : Model) (m : Mode) → Quiet M.right → segments_in N M m ≡ segments_in L M m
  unfolding segments_in
  segments_alike M m q = segments_longer (λ x. with_slot M.slots (M.right m x)) (λ x h k. ap (with_slot M.slots) (q m x h k))

  too_many_longer : (M : Model) → Quiet M.right → has_too_many N M ≡ has_too_many L M
  unfolding has_too_many
  too_many_longer M q =
      ap₂ (λ (a b : List Segment). ltb 32 (length a) || ltb 32 (length b)) (segments_alike M READ q) (segments_alike M RW q)

  stops_none : (d : Action) → (stops21 d none ≡ false) × (stops22 d none ≡ false)
  stops_none (grants b) = (refl, refl)
  stops_none returns = (refl, refl)
  stops_none recalls = (refl, refl)
  stops_none revokes = (refl, refl)

  recall_longer : (d : Action) (o : Command) (M : Model) → Quiet M.right → stops25 N d o M ≡ stops25 L d o M
  recall_longer (grants b) o M q = refl
  recall_longer returns o M q = refl
  recall_longer recalls o M q = ap not (meets_longer o is_held M refl q)
  recall_longer revokes o M q = refl

  verdict_longer : (o : Command) (M : Model) → stays_in N o.action o.last ≡ true → Quiet M.right → verdict N o M ≡ verdict L o M
  unfolding verdict
  verdict_longer o M s q =
      let e = stops_none o.action in
      rw (
        meets_longer o (stops21 o.action) M e.0 q,
        meets_longer o (stops22 o.action) M e.1 q,
        recall_longer o.action o M q,
        too_many_longer (act N o M) (act_quiet o M s q),
        act_longer o M s q,
      )

  answer_longer : (a : Answer Command) (M : Model) → stays N a ≡ true → Quiet M.right → answer_to N a M ≡ answer_to L a M
  unfolding answer_to stays
  answer_longer (refused n) M s q = refl
  answer_longer (accepted o) M s q = verdict_longer o M s q

  after_longer : (a : Answer Command) (M : Model) → stays N a ≡ true → Quiet M.right → (model_after N a M ≡ model_after L a M) × Quiet (model_after N a M).right
  unfolding model_after stays
  after_longer (refused n) M s q = (refl, q)
  after_longer (accepted o) M s q = (
    ap₂ (λ (n : ℕ) (X : Model). if_accepted n X M) (verdict_longer o M s q) (act_longer o M s q),
    go (verdict N o M),
  )
    where
      go : (n : ℕ) → Quiet (if_accepted n (act N o M) M).right
      go zero = act_quiet o M s q
      go (suc n) = q

  -- a list of events
  pub run_longer : (es : List Event) (M : Model) → all_stay N es ≡ true → Quiet M.right
      → (answers N (rights_and_slots N) es M ≡ answers L (rights_and_slots L) es M) × (run (rights_and_slots N) es M ≡ run (rights_and_slots L) es M) × Quiet (run (rights_and_slots N) es M).right
  unfolding answers run all_stay
  run_longer [] M s q = (refl, refl, q)
  run_longer (e ∷ es) M s q =
      let p = both (stays N (read_command e)) (all_stay N es) s in
      let a = after_longer (read_command e) M p.0 q in
      let r = run_longer es (model_after N (read_command e) M) p.1 a.1 in (
        ap₂ {C = List ℕ} (λ n ns. n ∷ ns) (answer_longer (read_command e) M p.0 q) (r.0 ∙ ap (answers L (rights_and_slots L) es) a.0),
        r.1 ∙ ap (run (rights_and_slots L) es) a.0,
        r.2,
      )

  pub example_longer : (es : List Event) → all_stay N es ≡ true
      → (answers N (rights_and_slots N) es start ≡ answers L (rights_and_slots L) es start)
      × ((m : Mode) → segments_in N (run (rights_and_slots N) es start) m ≡ segments_in L (run (rights_and_slots L) es start) m)
  example_longer es s =
      let r = run_longer es start s (λ m x h k. refl) in
      (r.0, λ m. segments_alike (run (rights_and_slots N) es start) m r.2 ∙ ap (λ (M : Model). segments_in L M m) r.1)
