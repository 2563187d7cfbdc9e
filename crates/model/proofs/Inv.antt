-- What holds of the model after every list of events.
use Prim.Native.Nat.{ℕ, zero, suc, ◌≤◌}
use mathlib.Core.Path.{◌≡◌, refl, sym, ap, ◌∙◌}
use mathlib.Core.Logic.{⊎_elim}
use mathlib.Core.Bool.{Bool, true, false, ◌||◌, false≢true, or-true}
use mathlib.Core.List.{List, [], map}
use native.Mathlib.Omega.{arith}
use borrow.Author.Tests.{ltb-false}
use lib.Dec.{ltb}
use lib.ListN.{length, get_or, replicate, length-map}
use Rattle.octets.proofs.SameLaws.{same_refl}
use Rattle.base.specs.Answer.{Answer, accepted, refused, pick}
use Rattle.segments.specs.declared.Right.TheVariants as table
use Rattle.segments.specs.Segments.{Mode, READ, RW, any_below, segments_of}
use Rattle.segments.proofs.Canon.{Below, Canon, at_none}
use Rattle.segments.proofs.Fewest.{scan_only}
use Rattle.segments.proofs.ScanLaws.{any_some}
use Rattle.store.specs.Store.{Body, Slot, empty, holds}
use Rattle.model.specs.Model.{ByteRight, none, granted, recalled, Action, grants, returns, recalls, revokes, Model, Command, act, after_at, any_byte, covers, if_accepted, if_named, is_under, meets, model_after, placed, refuse, right_after, segments_in, start, stops21, stops22, stops24, stops25, has_too_many, verdict}
use Rattle.model.specs.SlotsShown.{all_distinct}
use Rattle.model.specs.Invariants.{GoodBody, InSlot, Invariant}
use Rattle.model.proofs.ModelSlotLaws.{emptied_distinct, emptied_held, granted_in_lem, empty_holds, named_in, placed_distinct, placed_held, placed_in, placed_length}

-- ---- bodies that an event may bring

abbrev pub GoodAction : Action → Type 0
GoodAction (grants b) = GoodBody b
GoodAction returns = Unit {0}
GoodAction recalls = Unit {0}
GoodAction revokes = Unit {0}

abbrev pub GoodCommand : Answer Command → Type 0
GoodCommand (accepted o) = GoodAction o.action
GoodCommand (refused n) = Unit {0}

-- ---- what the verdict 0 says

pub record Passes (N : ℕ) (o : Command) (M : Model) : Type 0 where
  pub not_21 : meets N o (stops21 o.action) M ≡ false
  pub not_22 : meets N o (stops22 o.action) M ≡ false
  pub not_25 : stops25 N o.action o M ≡ false
  pub not_24 : stops24 o.action M.slots ≡ false
  pub not_23 : has_too_many N (act N o M) ≡ false

refuse_zero : (n : ℕ) (t : Bool) (next : ℕ) → refuse (suc n) t next ≡ 0 → (t ≡ false) × (next ≡ 0)
refuse_zero n true next e = absurd (omega arith)
refuse_zero n false next e = (refl, e)

pub passes : (N : ℕ) (o : Command) (M : Model) → verdict N o M ≡ 0 → Passes N o M
unfolding verdict
passes N o M e =
    let a = refuse_zero 20 _ _ e in
    let b = refuse_zero 21 _ _ a.1 in
    let c = refuse_zero 24 _ _ b.1 in
    let d = refuse_zero 23 _ _ c.1 in
    let f = refuse_zero 22 _ _ d.1 in
    record { not_21 = a.0; not_22 = b.0; not_25 = c.0; not_24 = d.0; not_23 = f.0 }

-- ---- at the start

all_empty : (n i : ℕ) → get_or (replicate n empty) i empty ≡ empty
all_empty zero i = refl
all_empty (suc n) zero = refl
all_empty (suc n) (suc i) = all_empty n i

pub no_segments : (N : ℕ) → [] ≡ segments_of N (λ x. table.None)
unfolding Canon Below
no_segments N = scan_only N (λ x. table.None) [] tt tt (λ x h. at_none x)

pub start_keeps : (N : ℕ) → Invariant N start
unfolding all_distinct segments_in
start_keeps N =
    record {
      eight = refl;
      distinct = refl;
      good = λ i b h. absurd (empty_holds b (sym (all_empty 8 i) ∙ h));
      in_slot = λ m x h. tt;
      few = λ m. rw (← no_segments N) (omega arith);
      named = λ i b h. absurd (empty_holds b (sym (all_empty 8 i) ∙ h));
    }

-- ---- a command that passes

pub any_byte_lem : (N : ℕ) (p : Mode → ℕ → Bool) (m : Mode) (x : ℕ) → x ≤ N → p m x ≡ true → any_byte N p ≡ true
unfolding any_byte
any_byte_lem N p READ x h e = rw (any_some (p READ) (suc N) x (omega arith) e)
any_byte_lem N p RW x h e = rw (any_some (p RW) (suc N) x (omega arith) e) (or-true (any_below (p READ) (suc N)))

-- the body of a right after a command is in a slot, once the command's own is placed
placed_in_slot : (ss : List Slot) (d : Action) (r : ByteRight) → stops24 d ss ≡ false → InSlot ss r → InSlot (placed d ss) (right_after d r)
placed_in_slot ss (grants b) r n h = granted_in_lem b ss n
placed_in_slot ss returns r n h = tt
placed_in_slot ss recalls none n h = tt
placed_in_slot ss recalls (granted b) n h = h
placed_in_slot ss recalls (recalled b) n h = h
placed_in_slot ss revokes r n h = tt

still_in_slot : (ss : List Slot) (d : Action) (r : ByteRight) → InSlot ss r → InSlot (placed d ss) r
still_in_slot ss d none h = tt
still_in_slot ss d (granted b) h = placed_in d b ss h
still_in_slot ss d (recalled b) h = placed_in d b ss h

after_in_slot : (ss : List Slot) (o : Command) (m : Mode) (x : ℕ) (r : ByteRight) → stops24 o.action ss ≡ false → InSlot ss r
    → InSlot (placed o.action ss) (after_at o m x r)
unfolding after_at pick
after_in_slot ss o m x r n h = go (covers o m x)
  where
    go : (t : Bool) → InSlot (placed o.action ss) (pick t (right_after o.action r) r)
    go true = placed_in_slot ss o.action r n h
    go false = still_in_slot ss o.action r h

-- and stays there, since the right names it
named_in_slot : (N : ℕ) (right : Mode → ℕ → ByteRight) (ss : List Slot) (m : Mode) (x : ℕ) → x ≤ N
    → InSlot ss (right m x) → InSlot (map (if_named N right) ss) (right m x)
named_in_slot N right ss m x h k = go (right m x) refl k
  where
    go : (r : ByteRight) → right m x ≡ r → InSlot ss r → InSlot (map (if_named N right) ss) r
    go none e j = tt
    go (granted b) e j =
        named_in N right b ss (any_byte_lem N (λ m x. is_under b (right m x)) m x h (ap (is_under b) e ∙ same_refl b)) j
    go (recalled b) e j =
        named_in N right b ss (any_byte_lem N (λ m x. is_under b (right m x)) m x h (ap (is_under b) e ∙ same_refl b)) j

few_of : (N : ℕ) (M : Model) → has_too_many N M ≡ false → (m : Mode) → length (segments_in N M m) ≤ 32
unfolding has_too_many
few_of N M e = go (ltb 32 (length (segments_in N M READ))) (ltb 32 (length (segments_in N M RW))) refl refl e
  where
    go : (t u : Bool) → ltb 32 (length (segments_in N M READ)) ≡ t → ltb 32 (length (segments_in N M RW)) ≡ u → (t || u) ≡ false
        → (m : Mode) → length (segments_in N M m) ≤ 32
    go true u h k f m = absurd (false≢true (sym f))
    go false true h k f m = absurd (false≢true (sym f))
    go false false h k f READ = ltb-false 32 (length (segments_in N M READ)) h
    go false false h k f RW = ltb-false 32 (length (segments_in N M RW)) k

good_placed : (d : Action) (ss : List Slot) → GoodAction d → ((i : ℕ) (b : Body) → get_or ss i empty ≡ holds b → GoodBody b)
    → (i : ℕ) (b : Body) → get_or (placed d ss) i empty ≡ holds b → GoodBody b
good_placed d ss g h i b k = ⊎_elim (λ e. h i b e) (λ e. rw e at g) (placed_held d b ss i k)

pub act_keeps : (N : ℕ) (o : Command) (M : Model) → GoodAction o.action → Passes N o M → Invariant N M → Invariant N (act N o M)
unfolding act
act_keeps N o M g p v =
    let right : Mode → ℕ → ByteRight = λ m x. after_at o m x (M.right m x) in
    let ss = placed o.action M.slots in
    record {
      eight = length-map ss (if_named N right) ∙ (placed_length o.action M.slots ∙ v.eight);
      distinct = emptied_distinct N right ss (placed_distinct o.action M.slots v.distinct);
      good = λ i b h. good_placed o.action M.slots g v.good i b (emptied_held N right b ss i h).0;
      in_slot = λ m x h. named_in_slot N right ss m x h (after_in_slot M.slots o m x (M.right m x) p.not_24 (v.in_slot m x h));
      few = few_of N (act N o M) p.not_23;
      named = λ i b h. (emptied_held N right b ss i h).1;
    }

-- ---- an event, and a list of them

pub after_keeps : (N : ℕ) (a : Answer Command) (M : Model) → GoodCommand a → Invariant N M → Invariant N (model_after N a M)
unfolding model_after
after_keeps N (refused n) M g v = v
after_keeps N (accepted o) M g v = go (verdict N o M) refl
  where
    go : (n : ℕ) → verdict N o M ≡ n → Invariant N (if_accepted n (act N o M) M)
    go zero e = act_keeps N o M g (passes N o M e) v
    go (suc n) e = v
