-- A table as plain numbers, in which it crosses to C. Numbers that are no table are unsound: 20.
use Rattle.std.specs.Prelude.{ℕ, List, [], ◌∷◌, map, eqb}
use Rattle.base.specs.Answer.{Answer, accepted, refused, given, pick}
use Rattle.segments.specs.declared.Right.{Right}
use Rattle.segments.specs.declared.Right.TheVariants.{None, Granted, Recalled}
use Rattle.segments.specs.declared.Segment.{Segment}
use Rattle.segments.specs.declared.Segments.{Segments}
use Rattle.segments.specs.declared.Table.{Table}
use Rattle.segments.specs.Segments.{kind_of, slot_number_of}
use Rattle.abi_table.specs.declared.types.SegmentRecord.{SegmentRecord}
use Rattle.abi_table.specs.declared.types.TableRecord.{TableRecord}

-- ---- the record of a table

abbrev pub segment_record : Segment → SegmentRecord
segment_record s = record { first = s.first; last = s.last; kind = kind_of s.right; slot = slot_number_of s.right }

-- all entries, used or not
unfoldable pub record_of : Table → TableRecord
record_of t = record {
  read = map segment_record t.read.items;
  rw = map segment_record t.rw.items;
  read_count = t.read.count;
  rw_count = t.rw.count;
}

-- ---- the table of a record

-- an unknown kind is no right, nor is none with a slot
unfoldable pub right_of_numbers : ℕ → ℕ → Answer Right
right_of_numbers kind slot =
    pick (eqb kind 0) (pick (eqb slot 0) (accepted None) (refused 20))
    (pick (eqb kind 1) (accepted (Granted record { 0 = slot }))
    (pick (eqb kind 2) (accepted (Recalled record { 0 = slot })) (refused 20)))

unfoldable pub segment_in : SegmentRecord → Answer Segment
segment_in s =
    given (right_of_numbers s.kind s.slot) λ right.
    accepted (record { first = s.first; last = s.last; right = right })

unfoldable pub items_in : List SegmentRecord → Answer (List Segment)
items_in [] = accepted []
items_in (s ∷ l) =
    given (segment_in s) λ x.
    given (items_in l) λ xs.
    accepted (x ∷ xs)

unfoldable pub segments_of_records : List SegmentRecord → ℕ → Answer Segments
segments_of_records l count = given (items_in l) λ xs. accepted (record { items = xs; count = count })

unfoldable pub table_in : TableRecord → Answer Table
table_in r =
    given (segments_of_records r.read r.read_count) λ read.
    given (segments_of_records r.rw r.rw_count) λ rw.
    accepted (record { read = read; rw = rw })
