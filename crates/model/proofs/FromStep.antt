-- Demand 3 follows where each call does what the model does.
use Prim.Native.Nat.{ℕ, zero, suc, ◌+◌, ◌*◌, ◌≤◌}
use mathlib.Core.Path.{◌≡◌, refl, sym, ap, ap₂, ◌∙◌}
use mathlib.Core.Logic.{⊎_elim}
use mathlib.Core.Bool.{false}
use mathlib.Core.List.{List, [], ◌∷◌}
use native.Mathlib.Omega.{arith}
use native.Mathlib.Decide.{dec_le}
use lib.ListN.{replicate, replicate-append-replicate}
use Rattle.base.specs.Answer.{Answer, accepted, refused, pick}
use Rattle.base.specs.Lists.{Each}
use Rattle.base.specs.Ranges.{last_byte}
use Rattle.segments.specs.declared.Right.{Right}
use Rattle.segments.specs.declared.Right.TheVariants.{None}
use Rattle.segments.specs.declared.Segment.{Segment}
use Rattle.segments.specs.declared.Table.{Table}
use Rattle.segments.specs.Segments.{Mode, empty_table, list_in, right_at}
use Rattle.segments.proofs.Canon.{Below, Canon, at_in, at_past, canon_under}
use Rattle.segments.proofs.ScanLaws.{segments_below, segments_past}
use Rattle.store.specs.Store.{Slot, empty, slot_bytes, store_of}
use Rattle.model.specs.Model.{none, Event, Model, Command, ReferenceModel, act, after_at, answer_to, answers, if_accepted, model_after, read_command, run, segments_in, start, table_of, verdict, with_slot}
use Rattle.model.specs.SlotsShown.{slots_in}
use Rattle.model.specs.Claim.{Agreed, Calls, Confined, Demand3, EachConfined, Fits, Ordered, Showing, accepted_of, answered, in_reach, kept_left, right_given, right_in, store_left, with_body}
use Rattle.model.proofs.ModelLaws.{Lawful, run_right}
use Rattle.model.proofs.ShortestLists.{fewest_showing}
use Rattle.model.specs.Invariants.{Invariant, left_by}
use Rattle.model.proofs.Inv.{GoodCommand, after_keeps, no_segments, start_keeps}
use Rattle.model.proofs.Decode.{model_canon, list_in_lem, right_back, shown, slots_back, with_back}
use Rattle.model.proofs.CommandLaws.{read_small}

-- ---- the start

pub start_table : (N : ℕ) → table_of N start ≡ empty_table
unfolding table_of segments_in empty_table
start_table N = rw (← no_segments N)

empty_store : (n : ℕ) → store_of (replicate n empty) ≡ replicate (n * 4096) 0
unfolding store_of slot_bytes
empty_store zero = refl
empty_store (suc n) =
    let e : suc n * 4096 ≡ 4096 + n * 4096 = omega arith in
    rw (e, empty_store n) (replicate-append-replicate 4096 (n * 4096) 0)

pub start_store : store_of (replicate 8 empty) ≡ replicate 32768 0
start_store = empty_store 8

-- ---- an event changes no right outside its reach

outside : (N : ℕ) (a : Answer Command) (M : Model) (m : Mode) (x : ℕ) → in_reach a m x ≡ false → (model_after N a M).right m x ≡ M.right m x
unfolding model_after act after_at pick
outside N (refused n) M m x h = refl
outside N (accepted o) M m x h = go (verdict N o M)
  where
    go : (n : ℕ) → (if_accepted n (act N o M) M).right m x ≡ M.right m x
    go zero = rw h
    go (suc n) = refl

-- ---- a reference model

module _ {L : Type 0} {ref : ReferenceModel L} {Holds : L → Type 0} (good : Lawful ref Holds) where
  command_small : (e : Event) (l : L) → Fits e → GoodCommand (ref.command e l)
  command_small e l f = ⊎_elim (λ s. rw s (read_small e f)) (λ r. rw r.1 tt) (good.command_read e l)

  command_outside : (e : Event) (l : L) (M : Model) (m : Mode) (x : ℕ) → in_reach (read_command e) m x ≡ false
      → (model_after last_byte (ref.command e l) M).right m x ≡ M.right m x
  command_outside e l M m x h =
      ⊎_elim (λ s. rw s (outside last_byte (read_command e) M m x h))
      (λ r. rw r.1 (outside last_byte (refused (suc r.0)) M m x refl))
      (good.command_read e l)

  first_keeps : Invariant last_byte (ref.model ref.first)
  first_keeps = rw good.at_first (start_keeps last_byte)

  first_store : store_of (ref.model ref.first).slots ≡ replicate 32768 0
  first_store = rw good.at_first start_store

  event_keeps : (e : Event) (l : L) → Fits e → Invariant last_byte (ref.model l) → Invariant last_byte (ref.model (ref.next e l))
  event_keeps e l f v = rw (good.model_after_lem e l) (after_keeps last_byte (ref.command e l) (ref.model l) (command_small e l f) v)

  kept_after : (es : List Event) (l : L) → Each Fits es → Invariant last_byte (ref.model l) → Holds l
      → Invariant last_byte (ref.model (run ref es l)) × Holds (run ref es l)
  unfolding run
  kept_after [] l f v h = (v, h)
  kept_after (e ∷ es) l f v h =
      kept_after es (ref.next e l) f.1 (event_keeps e l f.0 v) (good.holds_after e l f.0 v h)

  -- after every list of events
  pub run_keeps : (es : List Event) → Each Fits es
      → Invariant last_byte (ref.model (run ref es ref.first)) × Holds (run ref es ref.first)
  run_keeps es f = kept_after es ref.first f first_keeps good.holds_first

  -- keep: what is kept of what the model keeps, in which its table is
  confined_step : {K : Type 0} (table : K → Table) (keep : L → K) → ((l : L) → table (keep l) ≡ table_of last_byte (ref.model l))
      → (e : Event) (l : L) → Fits e → Invariant last_byte (ref.model l)
      → Confined table e (keep l) (store_of (ref.model l).slots) (left_by ref keep e l)
  unfolding left_by
  confined_step table keep shows e l f v =
      let l' = ref.next e l in
      record {
        elsewhere = λ n m x h k.
            rw (shows l', shows l)
            (right_back last_byte (ref.model l') (event_keeps e l f v) m x h
            ∙ (ap (λ (M : Model). M.right m x) (good.model_after_lem e l)
            ∙ (command_outside e l (ref.model l) m x k ∙ sym (right_back last_byte (ref.model l) v m x h))));
        unchanged = λ n.
            let s : l' ≡ l = good.refused_keeps e l n in
            (ap keep s, ap (λ (X : L). store_of (ref.model X).slots) s);
      }

-- ---- the model's lists show its rights

model_ordered : (ss : List Slot) (lo : ℕ) (r : Right) (l : List Segment) → Canon lo r l → Below (suc last_byte) l
    → ((x : ℕ) → (right_at l x ≡ None → ⊥) → with_body ss (right_at l x) ≡ none → ⊥) → Ordered ss lo l
unfolding Canon Below Ordered
model_ordered ss lo r [] c b h = tt
model_ordered ss lo r (s ∷ l) c b h =
    let e : right_at (s ∷ l) s.first ≡ s.right = at_in s l s.first (omega arith) c.1 in (
      c.0,
      c.1,
      omega arith,
      λ k. h s.first (λ n. c.2 (sym e ∙ n)) (ap (with_body ss) e ∙ k),
      model_ordered ss (suc s.last) s.right l c.4 b.1 (λ x n. tail x n (dec_le x s.last)),
    )
  where
    tail : (x : ℕ) → (right_at l x ≡ None → ⊥) → Dec (x ≤ s.last) → with_body ss (right_at l x) ≡ none → ⊥
    tail x n (yes d) k = n (canon_under (suc s.last) s.right l c.4 x (omega arith))
    tail x n (no d) k =
        let e : right_at (s ∷ l) x ≡ right_at l x = at_past s l x (omega arith) in
        h x (λ j. n (sym e ∙ j)) (ap (with_body ss) e ∙ k)

module _ (M : Model) (v : Invariant last_byte M) where
  shown_body : (m : Mode) (x : ℕ) → (right_at (segments_in last_byte M m) x ≡ None → ⊥)
      → with_body M.slots (right_at (segments_in last_byte M m) x) ≡ none → ⊥
  unfolding segments_in
  shown_body m x n k = go (dec_le x last_byte)
    where
      go : Dec (x ≤ last_byte) → ⊥
      go (yes h) =
          let e = shown last_byte M m x h in
          let r : M.right m x ≡ none = sym (with_back M.slots (M.right m x) (v.in_slot m x h)) ∙ (ap (with_body M.slots) (sym e) ∙ k) in
          n (e ∙ ap (with_slot M.slots) r)
      go (no h) = n (segments_past last_byte (λ x. with_slot M.slots (M.right m x)) x (omega arith))

  model_below : (m : Mode) → Below (suc last_byte) (segments_in last_byte M m)
  unfolding segments_in
  model_below m = segments_below last_byte (λ x. with_slot M.slots (M.right m x))

  pub model_shows : (m : Mode) → Showing M.slots (M.right m) (segments_in last_byte M m)
  model_shows m =
      record {
        ordered = model_ordered M.slots 0 None (segments_in last_byte M m) (model_canon last_byte M m) (model_below m) (shown_body m);
        shows = λ x h. ap (with_body M.slots) (shown last_byte M m x h) ∙ with_back M.slots (M.right m x) (v.in_slot m x h);
      }

-- ---- a list of calls

-- keep: what is kept of what the model keeps, in which its table is
module _ {K L : Type 0} (table : K → Table) (first : K) {ref : ReferenceModel L} {Holds : L → Type 0} (good : Lawful ref Holds) (call : Calls K)
    (keep : L → K)
    (shows : (l : L) → table (keep l) ≡ table_of last_byte (ref.model l))
    (starts : keep ref.first ≡ first)
    (steps : (e : Event) (l : L) → Fits e → Invariant last_byte (ref.model l) → Holds l
    → call e (keep l) (store_of (ref.model l).slots) ≡ left_by ref keep e l)
  where
    -- what the calls leave is the model's
    abbrev Follows : List Event → K → List ℕ → L → Type 0
    Follows es k store l =
        (answered call es k store ≡ answers last_byte ref es l)
        × (kept_left call es k store ≡ keep (run ref es l))
        × (store_left call es k store ≡ store_of (ref.model (run ref es l)).slots)
        × EachConfined table call es k store

    follows : (es : List Event) (l : L) → Each Fits es → Invariant last_byte (ref.model l) → Holds l
        → Follows es (keep l) (store_of (ref.model l).slots) l
    unfolding answered kept_left store_left EachConfined answers run left_by
    follows [] l f v h = (refl, refl, refl, tt)
    follows (e ∷ es) l f v h =
        let r = follows es (ref.next e l) f.1 (event_keeps good e l f.0 v) (good.holds_after e l f.0 v h) in
        rw (steps e l f.0 v h) (
          ap (λ (ns : List ℕ). answer_to last_byte (ref.command e l) (ref.model l) ∷ ns) r.0,
          r.1,
          r.2,
          (confined_step good table keep shows e l f.0 v, r.3),
        )

    from_start : (es : List Event) → Each Fits es → Follows es first (replicate 32768 0) ref.first
    from_start es f = rw (← starts, ← first_store good) (follows es ref.first f (first_keeps good) good.holds_first)

    -- what is kept after a list is what is kept of the model
    pub kept_left_lem : (es : List Event) → Each Fits es → kept_left call es first (replicate 32768 0) ≡ keep (run ref es ref.first)
    kept_left_lem es f = (from_start es f).1

    module _ (es : List Event) (f : Each Fits es) where
      abbrev M : Model
      M = ref.model (run ref es ref.first)

      kept : Invariant last_byte M
      kept = (run_keeps good es f).0

      agreed : (got : List ℕ) (t : Table) (store : List ℕ) → got ≡ answers last_byte ref es ref.first → t ≡ table_of last_byte M
          → store ≡ store_of M.slots
          → EachConfined table call es first (replicate 32768 0)
          → Agreed table first ref call es got t store M
      agreed got t store g p q c =
          let rights-given : (m : Mode) (x : ℕ) → M.right m x ≡ right_given (accepted_of es got) m x none =
          λ m x.
          run_right good es ref.first m x
          ∙ ap₂ (λ (ns : List ℕ) (X : Model). right_given (accepted_of es ns) m x (X.right m x)) (sym g) good.at_first in
          let back : slots_in t store ≡ M.slots = ap₂ slots_in p q ∙ slots_back last_byte M kept in
          let list : (m : Mode) → list_in t m ≡ segments_in last_byte M m = λ m. ap (λ (X : Table). list_in X m) p ∙ list_in_lem last_byte M m in
          record {
            same_answers = g;
            rights = λ m x h. ap₂ (λ (X : Table) (s : List ℕ). right_in X s m x) p q ∙ (right_back last_byte M kept m x h ∙ rights-given m x);
            same_rights = λ m x h. rights-given m x;
            confined = c;
            same_table = p;
            same_slots = back;
            shows = λ m. rw (back, list m) (model_shows M kept m);
            fewest = λ m l k n.
                rw (list m)
                (fewest_showing M.slots (M.right m) (segments_in last_byte M m) l kept.distinct (model_canon last_byte M m) (model_shows M kept m) (rw back at k) (λ e. n (e ∙ sym (list m))));
            same_store = q;
          }

    pub demand_3 : Demand3 table first ref call
    demand_3 es f =
        let w = from_start es f in
        agreed es f _ _ _ w.0 (ap table w.1 ∙ shows (run ref es ref.first)) w.2 w.3
