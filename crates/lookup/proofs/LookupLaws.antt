-- Laws of lists of segments looked through from the front: the next segment and the ones after it, and none left.
use Rattle.std.proofs.Common.{◌≡◌, ℕ, ◌+◌, ◌<◌, ◌≤◌, List, [], ◌∷◌, length, drop, get_or, drop-cons, add-one}
use lib.ListN.{drop_of_length-le}
use Rattle.segments.specs.declared.Segment.{Segment}

-- the segment at index k, and the ones after it
pub next_segment : (l : List Segment) (k : ℕ) (d : Segment) → k < length l → drop k l ≡ get_or l k d ∷ drop (k + 1) l
next_segment l k d h = rw (add-one k) (drop-cons l k d h)

pub no_segment : (l : List Segment) (k : ℕ) → length l ≤ k → drop k l ≡ []
no_segment l k h = drop_of_length-le l h
