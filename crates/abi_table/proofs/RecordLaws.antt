-- Laws of records looked through from the front: the next one and those after it, one that stands for no segment, none left.
use Prim.Native.Nat.{ℕ, ◌+◌, ◌≤◌, ◌<◌}
use mathlib.Core.Path.{◌≡◌, refl, sym, ap, ◌∙◌}
use mathlib.Core.Bool.{Bool, true, false}
use Rattle.std.specs.Prelude.{None, Some}
use mathlib.Core.List.{List, [], ◌∷◌, ◌++◌, append-nil}
use native.Mathlib.Numerals.{add-one}
use native.Mathlib.Omega.{arith}
use lib.ListN.{length, take, drop, get_or, set, drop_of_length-le}
use lib.Dec.{eqb}
use lib.Seq.{append_snoc, drop-cons, take_all, take-suc-set}
use Rattle.base.specs.Answer.{Answer, accepted, refused, given, pick}
use Rattle.segments.specs.declared.Right.TheVariants as right
use Rattle.segments.specs.declared.Segment.{Segment}
use Rattle.segments.specs.declared.Segments.{Segments}
use Rattle.segments.specs.declared.Table.{Table}
use Rattle.abi_table.specs.declared.types.SegmentRecord.{SegmentRecord}
use Rattle.abi_table.specs.Answers.{option_of}
use Rattle.abi_table.specs.declared.types.TableRecord.{TableRecord}
use Rattle.abi_table.specs.TableRecords.{items_in, right_of_numbers, segment_in, segments_of_records, table_in}

-- ---- the option of an answer, read backwards

pub was_refused : {A : Type 0} (a : Answer A) → option_of a ≡ None → (n : ℕ) × (a ≡ refused n)
was_refused (accepted x) p = let e : ◌≡◌ {A = ℕ} 0 1 = cc in absurd (omega arith)
was_refused (refused n) p = (n, refl)

pub was_accepted : {A : Type 0} (a : Answer A) (x : A) → option_of a ≡ Some x → a ≡ accepted x
was_accepted (accepted y) x p = let e : y ≡ x = cc in rw e
was_accepted (refused n) x p = let e : ◌≡◌ {A = ℕ} 0 1 = cc in absurd (omega arith)

-- ---- the segments of records

-- what was made of the first i records, and then what the records after them stand for
abbrev pub Made : List SegmentRecord → List Segment → ℕ → Type 0
Made l made i = items_in l ≡ given (items_in (drop i l)) (λ (xs : List Segment). accepted (take i made ++ xs))

given_same : (a : Answer (List Segment)) → a ≡ given a (λ (xs : List Segment). accepted xs)
unfolding given
given_same (accepted xs) = refl
given_same (refused n) = refl

pub made_none : (l : List SegmentRecord) (made : List Segment) → Made l made 0
made_none l made = given_same (items_in l)

items_next : (l : List SegmentRecord) (i : ℕ) (d : SegmentRecord) → i < length l
    → items_in (drop i l) ≡ given (segment_in (get_or l i d)) λ x. given (items_in (drop (i + 1) l)) λ xs. accepted (x ∷ xs)
unfolding items_in
items_next l i d h = rw (drop-cons l i d h, add-one i)

-- a segment at index i, in front of those after it
given_behind : (made : List Segment) (i : ℕ) (x : Segment) → i < length made → (a : Answer (List Segment))
    → given (given (accepted x) λ (y : Segment). given a λ (xs : List Segment). accepted (y ∷ xs)) (λ (xs : List Segment). accepted (take i made ++ xs))
    ≡ given a (λ (xs : List Segment). accepted (take (i + 1) (set made i x) ++ xs))
unfolding given
given_behind made i x k (accepted xs) = rw (add-one i, take-suc-set made i x k, append_snoc (take i made) x xs)
given_behind made i x k (refused n) = refl

module _ (l : List SegmentRecord) (made : List Segment) (i : ℕ) (d : SegmentRecord) (h : i < length l) (m : Made l made i) where
  pub made_one : (x : Segment) → i < length made → segment_in (get_or l i d) ≡ accepted x → Made l (set made i x) (i + 1)
  made_one x k s = m ∙ rw (items_next l i d h, s) (given_behind made i x k (items_in (drop (i + 1) l)))

  pub made_stops : (n : ℕ) → segment_in (get_or l i d) ≡ refused n → items_in l ≡ refused n
  unfolding given
  made_stops n s = m ∙ rw (items_next l i d h, s)

pub made_all : (l : List SegmentRecord) (made : List Segment) (i : ℕ) → length l ≤ i → length made ≤ i → Made l made i → items_in l ≡ accepted made
unfolding items_in given
made_all l made i h k m = m ∙ rw (drop_of_length-le l h, take_all i made k, append-nil)

-- ---- both iomodes

-- a refused answer in front, or after
pub none_left : (r : TableRecord) (n : ℕ) → items_in r.read ≡ refused n → None ≡ option_of (table_in r)
unfolding table_in segments_of_records given
none_left r n e = rw e

pub none_right : (r : TableRecord) (n : ℕ) → items_in r.rw ≡ refused n → None ≡ option_of (table_in r)
unfolding table_in segments_of_records given
none_right r n e = go (items_in r.read)
  where
    go : (a : Answer (List Segment)) → None ≡ option_of {A = Table} (given (given a λ xs. accepted (record { items = xs; count = r.read_count })) λ (read : Segments). given (given (items_in r.rw) λ xs. accepted (record { items = xs; count = r.rw_count })) λ (rw : Segments). accepted (record { read = read; rw = rw }))
    go (accepted xs) = rw e
    go (refused m) = refl

pub both_all : (r : TableRecord) (reads rws : List Segment) → items_in r.read ≡ accepted reads → items_in r.rw ≡ accepted rws
    → Some (record { read = record { items = reads; count = r.read_count }; rw = record { items = rws; count = r.rw_count } }) ≡ option_of (table_in r)
unfolding table_in segments_of_records given
both_all r reads rws e f = rw (e, f)

-- ---- what was taken, read backwards

-- the only refusal is 20
abbrev Only20 : {A : Type 0} → Answer A → Type 0
Only20 (accepted a) = Unit {0}
Only20 (refused n) = n ≡ 20

only_given : {A B : Type 0} (a : Answer A) (next : A → Answer B) → Only20 a → ((x : A) → Only20 (next x)) → Only20 (given a next)
unfolding given
only_given (accepted x) next h k = k x
only_given (refused n) next h k = h

only_pick : {A : Type 0} (t : Bool) (a b : Answer A) → Only20 a → Only20 b → Only20 (pick t a b)
unfolding pick
only_pick true a b h k = h
only_pick false a b h k = k

only_right : (kind slot : ℕ) → Only20 (right_of_numbers kind slot)
unfolding right_of_numbers
only_right kind slot =
    only_pick (eqb kind 0) _ _ (only_pick (eqb slot 0) (accepted right.None) (refused 20) tt refl)
    (only_pick (eqb kind 1) (accepted (right.Granted record { 0 = slot })) _ tt (only_pick (eqb kind 2) (accepted (right.Recalled record { 0 = slot })) (refused 20) tt refl))

only_items : (l : List SegmentRecord) → Only20 (items_in l)
unfolding items_in segment_in
only_items [] = tt
only_items (s ∷ l) =
    only_given (segment_in s) _ (only_given (right_of_numbers s.kind s.slot) _ (only_right s.kind s.slot) λ r. tt) λ x.
    only_given (items_in l) _ (only_items l) λ xs. tt

only_table : (r : TableRecord) → Only20 (table_in r)
unfolding table_in segments_of_records
only_table r =
    only_given (segments_of_records r.read r.read_count) _ (only_given (items_in r.read) _ (only_items r.read) λ xs. tt) λ g.
    only_given (segments_of_records r.rw r.rw_count) _ (only_given (items_in r.rw) _ (only_items r.rw) λ xs. tt) λ h. tt

pub no_table_is_20 : (r : TableRecord) (n : ℕ) → table_in r ≡ refused n → n ≡ 20
no_table_is_20 r n e = let h : Only20 {A = Table} (refused n) = rw e at (only_table r) in h

unfit_is : (a : Answer Table) → Only20 a → None ≡ option_of a → a ≡ refused 20
unfit_is a o p = let w = was_refused a (sym p) in let k = rw w.1 at o in w.1 ∙ ap refused k

module _ (r : TableRecord) where
  pub no_table_in : None ≡ option_of (table_in r) → table_in r ≡ refused 20
  no_table_in p = unfit_is (table_in r) (only_table r) p

  pub table_in_lem : (t : Table) → Some t ≡ option_of (table_in r) → table_in r ≡ accepted t
  table_in_lem t p = was_accepted (table_in r) t (sym p)
