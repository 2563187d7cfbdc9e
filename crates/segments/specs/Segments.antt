-- Lists of segments: what they show, and the list that a walk over every byte gives.
use Rattle.std.specs.Prelude.{ℕ, zero, suc, Bool, true, false, ◌&&◌, ◌||◌, List, [], ◌∷◌, length, take, leb, eqb}
use Rattle.base.specs.Limits.{most_segments}
use Rattle.base.specs.Answer.{pick}
use Rattle.base.specs.Lists.{padded}
use Rattle.base.specs.declared.iomode.Iomode.{Iomode}
use Rattle.base.specs.declared.iomode.Iomode.TheVariants.{Read, ReadWrite, Any}
use Rattle.segments.specs.declared.Right.{Right}
use Rattle.segments.specs.declared.Right.TheVariants.{None, Granted, Recalled}
use Rattle.segments.specs.declared.Segment.{Segment}
use Rattle.segments.specs.declared.Segments.{Segments}
use Rattle.segments.specs.declared.Table.{Table}

-- ---- the two iomodes in which a byte has a right

pub data Mode : Type 0 where
  READ RW : Mode

-- the two by number: 0 is READ, any other RW
abbrev pub mode_of : ℕ → Mode
mode_of i = pick (eqb i 0) READ RW

-- "ANY acts on both"
abbrev pub acts_on : Iomode → Mode → Bool
acts_on Read READ = true
acts_on Read RW = false
acts_on ReadWrite READ = false
acts_on ReadWrite RW = true
acts_on Any m = true

-- ---- rights

-- which of the cases a right is: 0 none, 1 granted, 2 recalled
abbrev pub kind_of : Right → ℕ
kind_of None = 0
kind_of (Granted s) = 1
kind_of (Recalled s) = 2

-- the number of the slot that a right is under; 0 where it is none
abbrev pub slot_number_of : Right → ℕ
slot_number_of None = 0
slot_number_of (Granted s) = s.0
slot_number_of (Recalled s) = s.0

-- the same case under the same slot: "the same right and body", as no two slots hold one body
abbrev pub same_right : Right → Right → Bool
same_right a b = eqb (kind_of a) (kind_of b) && eqb (slot_number_of a) (slot_number_of b)

-- whether a byte lies in the range from first to last
abbrev pub within : ℕ → ℕ → ℕ → Bool
within first last x = leb first x && leb x last

-- the right that a list shows at a byte: "other bytes are none"
unfoldable pub right_at : List Segment → ℕ → Right
right_at [] x = None
right_at (s ∷ l) x = pick (within s.first s.last x) s.right (right_at l x)

-- ---- the list worked out afresh, byte by byte

-- byte x with a right, in front of the segments of the bytes after it: "Neighbours that touch with the same right
-- and body are one segment."
unfoldable pub with_byte : ℕ → Right → List Segment → List Segment
with_byte x r [] = record { first = x; last = x; right = r } ∷ []
with_byte x r (s ∷ l) =
    pick (eqb (suc x) s.first && same_right r s.right)
    (record { first = x; last = s.last; right = r } ∷ l)
    (record { first = x; last = x; right = r } ∷ s ∷ l)

-- a byte with no right is in no segment
unfoldable pub in_front : ℕ → Right → List Segment → List Segment
in_front x None l = l
in_front x (Granted s) l = with_byte x (Granted s) l
in_front x (Recalled s) l = with_byte x (Recalled s) l

-- the segments of the n bytes from x on
unfoldable pub scan : (ℕ → Right) → ℕ → ℕ → List Segment
scan f zero x = []
scan f (suc n) x = in_front x (f x) (scan f n (suc x))

-- the segments of the bytes 0 to N, where byte x has the right f x
unfoldable pub segments_of : ℕ → (ℕ → Right) → List Segment
segments_of N f = scan f (suc N) 0

-- whether the test holds of one of the bytes below n
unfoldable pub any_below : (ℕ → Bool) → ℕ → Bool
any_below p zero = false
any_below p (suc n) = p n || any_below p n

-- ---- lists in their entries

-- what is in an entry without a segment
abbrev pub blank : Segment
blank = record { first = 0; last = 0; right = None }

-- "the table's other places blank"
unfoldable pub in_entries : List Segment → Segments
in_entries l = record { items = padded most_segments blank l; count = length l }

-- the segments in a table's entries
abbrev pub list_of : Segments → List Segment
list_of g = take g.count g.items

abbrev pub segments_for : Table → Mode → Segments
segments_for t READ = t.read
segments_for t RW = t.rw

abbrev pub list_in : Table → Mode → List Segment
list_in t m = list_of (segments_for t m)

unfoldable pub empty_table : Table
empty_table = record { read = in_entries []; rw = in_entries [] }

-- ---- slots that segments name

abbrev pub is_of_slot : ℕ → Right → Bool
is_of_slot i None = false
is_of_slot i (Granted s) = eqb i s.0
is_of_slot i (Recalled s) = eqb i s.0

unfoldable pub any_names : ℕ → List Segment → Bool
any_names i [] = false
any_names i (s ∷ l) = is_of_slot i s.right || any_names i l

-- whether a segment that meets the range passes the test; the table's own question, which the reference model does
-- not ask
unfoldable pub any_meets : (Right → Bool) → ℕ → ℕ → List Segment → Bool
any_meets p first last [] = false
any_meets p first last (s ∷ l) = (leb s.first last && leb first s.last && p s.right) || any_meets p first last l

-- whether a segment of either iomode names slot i
unfoldable pub is_named : Table → ℕ → Bool
is_named t i = any_names i (list_in t READ) || any_names i (list_in t RW)
