-- Questions about a table: the rights in a range, and the slots that are named; and what marking slots gives inside
-- this crate.
use Rattle.std.specs.Prelude.{ℕ, ◌<◌, ◌≡◌, Bool, true, false, not, ◌&&◌, ◌||◌, List, [], ◌∷◌, map, eqb, get_or, length}
use Rattle.base.specs.Limits.{slot_count}
use Rattle.base.specs.declared.iomode.Iomode.{Iomode}
use Rattle.segments.specs.declared.Right.{Right}
use Rattle.segments.specs.declared.Right.TheVariants as right
use Rattle.segments.specs.declared.Table.{Table}
use Rattle.segments.specs.Segments.{READ, RW, acts_on, any_meets, is_named, list_in}
use Rattle.lookup.specs.declared.range.Condition.{Condition}
use Rattle.lookup.specs.declared.range.Condition.TheVariants.{Held, HeldElsewhere, Recalled}

-- whether a right meets a condition. "Held means granted or recalled."
abbrev pub satisfies : Condition → Right → Bool
satisfies Held right.None = false
satisfies Held (right.Granted x) = true
satisfies Held (right.Recalled x) = true
satisfies (HeldElsewhere s) right.None = false
satisfies (HeldElsewhere s) (right.Granted x) = not (eqb x.0 s.0)
satisfies (HeldElsewhere s) (right.Recalled x) = not (eqb x.0 s.0)
satisfies Recalled right.None = false
satisfies Recalled (right.Granted x) = false
satisfies Recalled (right.Recalled x) = true

-- whether a segment of the iomode that meets the range has a right that passes the test
unfoldable pub table_meets : (Right → Bool) → Iomode → ℕ → ℕ → Table → Bool
table_meets p i first last t =
    (acts_on i READ && any_meets p first last (list_in t READ)) || (acts_on i RW && any_meets p first last (list_in t RW))

-- for each of the eight slots, whether a segment names it
unfoldable pub named_slots : Table → List Bool
named_slots t = map (is_named t) (0 ∷ 1 ∷ 2 ∷ 3 ∷ 4 ∷ 5 ∷ 6 ∷ 7 ∷ [])

-- ---- inside this crate

-- of the eight slots those are marked in l that pass the test, besides those that were in m
pub record Marking (test : ℕ → Bool) (m l : List Bool) : Type 0 where
  pub size : length l ≡ slot_count
  pub marks : (i : ℕ) → i < slot_count → get_or l i false ≡ (test i || get_or m i false)
