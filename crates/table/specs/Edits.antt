-- The edits of a list of segments, as lists: cut at the ends of the range, change what lies between, join what
-- touches.
use Rattle.std.specs.Prelude.{ℕ, ◌+◌, ◌-◌, max, min, Bool, true, false, ◌&&◌, Option, None, Some, List, [], ◌∷◌, ◌++◌, length, leb, ltb, eqb}
use Rattle.base.specs.Limits.{most_segments}
use Rattle.base.specs.Answer.{Answer, accepted, refused, pick}
use Rattle.base.specs.declared.iomode.Iomode.{Iomode}
use Rattle.segments.specs.declared.Right.{Right}
use Rattle.segments.specs.declared.Right.TheVariants as right
use Rattle.segments.specs.declared.Segment.{Segment}
use Rattle.segments.specs.declared.Segments.{Segments}
use Rattle.segments.specs.declared.Table.{Table}
use Rattle.segments.specs.Segments.{READ, RW, acts_on, in_entries, list_of, same_right}
use Rattle.table.specs.declared.change.Change.{Change}
use Rattle.table.specs.declared.change.Change.TheVariants.{Grant, Clear, Recall}

-- ---- one segment more, after a list

-- "Neighbours that touch with the same right and body are one segment."
unfoldable pub touching : Segment → Segment → Bool
touching a s = eqb (a.last + 1) s.first && same_right a.right s.right

unfoldable pub push_to : Segment → List Segment → Segment → List Segment
push_to a [] s = pick (touching a s) (record { first = a.first; last = s.last; right = a.right } ∷ []) (a ∷ s ∷ [])
push_to a (b ∷ l) s = a ∷ push_to b l s

unfoldable pub push_seg : List Segment → Segment → List Segment
push_seg [] s = s ∷ []
push_seg (a ∷ l) s = push_to a l s

unfoldable pub push_all : List Segment → List Segment → List Segment
push_all acc [] = acc
push_all acc (s ∷ l) = push_all (push_seg acc s) l

-- ---- the parts of the segments before, inside and after a range

unfoldable pub before : ℕ → Segment → List Segment
before first s =
    pick (ltb s.first first) (record { first = s.first; last = min s.last (first - 1); right = s.right }
    ∷ []) []

unfoldable pub after : ℕ → Segment → List Segment
after last s =
    pick (ltb last s.last) (record { first = max s.first (last + 1); last = s.last; right = s.right } ∷ []) []

-- "A recall turns granted into recalled and nothing else."
abbrev pub recalled_of : Right → Right
recalled_of right.None = right.None
recalled_of (right.Granted s) = right.Recalled s
recalled_of (right.Recalled s) = right.Recalled s

-- the right of a byte of the range after a change
abbrev pub changed_right : Change → Right → Right
changed_right (Grant s) r = right.Granted s
changed_right Clear r = right.None
changed_right Recall r = recalled_of r

-- a part, unless it has come to none
unfoldable pub unless_none : Segment → List Segment
unless_none s = pick (same_right right.None s.right) [] (s ∷ [])

abbrev pub cut_inside : Change → ℕ → ℕ → Segment → Segment
cut_inside c first last s = record {
  first = max s.first first;
  last = min s.last last;
  right = changed_right c s.right;
}

unfoldable pub inside : Change → ℕ → ℕ → Segment → List Segment
inside c first last s = pick (leb s.first last && leb first s.last) (unless_none (cut_inside c first last s)) []

-- the parts of all segments, in order
unfoldable pub parts : (Segment → List Segment) → List Segment → List Segment
parts g [] = []
parts g (s ∷ l) = g s ++ parts g l

-- ---- the edits

-- what is in the range afterwards: of a grant the whole range, of every other change the parts inside it, changed
unfoldable pub middle : Change → ℕ → ℕ → List Segment → List Segment
middle (Grant s) first last l = record { first = first; last = last; right = right.Granted s } ∷ []
middle Clear first last l = parts (inside Clear first last) l
middle Recall first last l = parts (inside Recall first last) l

unfoldable pub edited : Change → ℕ → ℕ → List Segment → List Segment
edited c first last l = push_all [] (parts (before first) l ++ (middle c first last l ++ parts (after last) l))

-- "more than 32 segments in an iomode": none
unfoldable pub edited_in : Change → ℕ → ℕ → Segments → Option Segments
edited_in c first last g =
    pick (leb (length (edited c first last (list_of g))) most_segments)
    (Some (in_entries (edited c first last (list_of g)))) None

-- in an iomode that the event does not act on, nothing changes
abbrev pub edited_where : Bool → Change → ℕ → ℕ → Segments → Option Segments
edited_where true c first last g = edited_in c first last g
edited_where false c first last g = Some g

-- "23 for either refuses the whole event"
abbrev pub both_fit : Option Segments → Option Segments → Answer Table
both_fit (Some read) (Some rw) = accepted (record { read = read; rw = rw })
both_fit (Some read) None = refused 23
both_fit None w = refused 23

unfoldable pub table_edited : Change → Iomode → ℕ → ℕ → Table → Answer Table
table_edited c i first last t =
    both_fit (edited_where (acts_on i READ) c first last t.read) (edited_where (acts_on i RW) c first last t.rw)
