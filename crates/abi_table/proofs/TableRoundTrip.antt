-- A table and its record say the same: the record of a table stands for that table, and what a record stands for has that record.
use Prim.Native.Nat.{ℕ}
use mathlib.Core.Path.{◌≡◌, refl, sym, ap, ◌∙◌}
use mathlib.Core.Bool.{Bool, true, false}
use mathlib.Core.List.{List, [], ◌∷◌, map}
use borrow.Author.Tests.{eqb-true}
use lib.Dec.{eqb}
use Rattle.base.specs.Answer.{accepted, refused, given, pick}
use Rattle.base.proofs.AnswerLaws.{given_inv, never_accepted, same_answer}
use Rattle.segments.specs.declared.Right.{Right}
use Rattle.segments.specs.declared.Right.TheVariants.{None, Granted, Recalled}
use Rattle.segments.specs.declared.Segment.{Segment}
use Rattle.segments.specs.declared.Segments.{Segments}
use Rattle.segments.specs.declared.Table.{Table}
use Rattle.segments.specs.Segments.{kind_of, slot_number_of}
use Rattle.abi_table.specs.declared.types.SegmentRecord.{SegmentRecord}
use Rattle.abi_table.specs.declared.types.TableRecord.{TableRecord}
use Rattle.abi_table.specs.TableRecords.{items_in, record_of, right_of_numbers, segment_in, segment_record, segments_of_records, table_in}

-- ---- from a table

right_back : (r : Right) → right_of_numbers (kind_of r) (slot_number_of r) ≡ accepted r
unfolding right_of_numbers pick
right_back None = refl
right_back (Granted s) = refl
right_back (Recalled s) = refl

segment_back : (s : Segment) → segment_in (segment_record s) ≡ accepted s
unfolding segment_in given
segment_back s = rw (right_back s.right)

items_back : (l : List Segment) → items_in (map segment_record l) ≡ accepted l
unfolding items_in given
items_back [] = refl
items_back (s ∷ l) = rw (segment_back s, items_back l)

pub table_back : (t : Table) → table_in (record_of t) ≡ accepted t
unfolding table_in record_of segments_of_records given
table_back t = rw (items_back t.read.items, items_back t.rw.items)

-- ---- from a record

right_record : (kind slot : ℕ) (r : Right) → right_of_numbers kind slot ≡ accepted r → (kind_of r ≡ kind) × (slot_number_of r ≡ slot)
unfolding right_of_numbers pick
right_record kind slot r e = go (eqb kind 0) (eqb slot 0) (eqb kind 1) (eqb kind 2) refl refl refl refl e
  where
    go : (a b c d : Bool) → eqb kind 0 ≡ a → eqb slot 0 ≡ b → eqb kind 1 ≡ c → eqb kind 2 ≡ d
        → pick a (pick b (accepted None) (refused 20)) (pick c (accepted (Granted record { 0 = slot })) (pick d (accepted (Recalled record { 0 = slot })) (refused 20))) ≡ accepted r
        → (kind_of r ≡ kind) × (slot_number_of r ≡ slot)
    go true true c d ha hb hc hd k = rw (← same_answer {a = None} k) (sym (eqb-true kind 0 ha), sym (eqb-true slot 0 hb))
    go true false c d ha hb hc hd k = never_accepted 20 r k
    go false b true d ha hb hc hd k = rw (← same_answer {a = Granted record { 0 = slot }} k) (sym (eqb-true kind 1 hc), refl)
    go false b false true ha hb hc hd k = rw (← same_answer {a = Recalled record { 0 = slot }} k) (sym (eqb-true kind 2 hd), refl)
    go false b false false ha hb hc hd k = never_accepted 20 r k

segment_record_lem : (s : SegmentRecord) (x : Segment) → segment_in s ≡ accepted x → segment_record x ≡ s
unfolding segment_in
segment_record_lem s x e =
    let w = given_inv (right_of_numbers s.kind s.slot) _ x e in
    let k = right_record s.kind s.slot w.value w.first in
    sym (ap segment_record (same_answer w.rest)) ∙ λ i. record { first = s.first; last = s.last; kind = k.0 i; slot = k.1 i }

items_record : (l : List SegmentRecord) (xs : List Segment) → items_in l ≡ accepted xs → map segment_record xs ≡ l
unfolding items_in
items_record [] xs e = sym (ap (map segment_record) (same_answer e))
items_record (s ∷ l) xs e =
    let w = given_inv (segment_in s) _ xs e in
    let v = given_inv (items_in l) _ xs w.rest in
    let p = segment_record_lem s w.value w.first in
    let q = items_record l v.value v.first in
    sym (ap (map segment_record) (same_answer v.rest)) ∙ λ i. p i ∷ q i

segments_record : (l : List SegmentRecord) (n : ℕ) (g : Segments) → segments_of_records l n ≡ accepted g → (map segment_record g.items ≡ l) × (g.count ≡ n)
unfolding segments_of_records
segments_record l n g e =
    let w = given_inv (items_in l) _ g e in
    let q = same_answer w.rest in
    (ap (λ (h : Segments). map segment_record h.items) (sym q) ∙ items_record l w.value w.first, ap (λ (h : Segments). h.count) (sym q))

pub record_back : (r : TableRecord) (t : Table) → table_in r ≡ accepted t → record_of t ≡ r
unfolding table_in record_of
record_back r t e =
    let w = given_inv (segments_of_records r.read r.read_count) _ t e in
    let v = given_inv (segments_of_records r.rw r.rw_count) _ t w.rest in
    let a = segments_record r.read r.read_count w.value w.first in
    let b = segments_record r.rw r.rw_count v.value v.first in
    sym (ap record_of (same_answer v.rest)) ∙ λ i. record { read = a.0 i; rw = b.0 i; read_count = a.1 i; rw_count = b.1 i }
