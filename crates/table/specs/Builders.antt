-- Lists under construction: the part that is pushed, and what a builder stands for.
use Rattle.std.specs.Prelude.{◌≤◌, ◌<◌, ◌≡◌, true, false, List, [], ◌∷◌, length, Option, None, Some}
use Rattle.base.specs.Limits.{most_segments}
use Rattle.base.specs.Lists.{padded}
use Rattle.segments.specs.declared.Segment.{Segment}
use Rattle.segments.specs.Segments.{blank}
use Rattle.table.specs.declared.builder.Builder.{Builder}

-- ---- parts

abbrev pub one_or_none : Option Segment → List Segment
one_or_none None = []
one_or_none (Some s) = s ∷ []

-- ---- builders

-- the builder has the list in its entries and blanks after it, or says that the list has no room; then its entries do
-- not matter, for the edit is refused
pub record Built (d : Builder) (l : List Segment) : Type 0 where
  pub small : d.count ≤ most_segments
  pub entries : d.full ≡ false → d.items ≡ padded most_segments blank l
  pub number : d.full ≡ false → d.count ≡ length l
  pub over : d.full ≡ true → most_segments < length l
