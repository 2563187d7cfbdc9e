-- Laws of the soundness of segments: two neighbours, and the blank entries.
use Prim.Native.Nat.{ℕ, suc, ◌+◌, ◌-◌, ◌≤◌, ◌<◌}
use mathlib.Core.Path.{◌≡◌, refl, ap}
use mathlib.Core.Bool.{Bool, true, false, not, ◌&&◌}
use mathlib.Core.List.{List}
use native.Mathlib.Numerals.{add-one}
use native.Mathlib.Omega.{arith}
use borrow.Author.Tests.{eq-eqb, le-ltb, lt-ltb, ne_eqb}
use lib.ListN.{length, drop, get_or, drop_of_length-le}
use lib.Seq.{drop-cons}
use Rattle.segments.specs.declared.Segment.{Segment}
use Rattle.segments.specs.Segments.{same_right}
use Rattle.soundness.specs.Sound.{all_blank, apart, is_blank}

-- ---- two neighbours

pub overlap : (a b : Segment) → b.first ≤ a.last → apart a b ≡ false
unfolding apart
overlap a b h = rw (le-ltb _ _ h)

pub gap : (a b : Segment) → a.last < b.first → (b.first - a.last ≡ 1 → ⊥) → apart a b ≡ true
unfolding apart
gap a b h n =
    let m : suc a.last ≡ b.first → ⊥ = λ e. n (omega arith) in
    rw (lt-ltb _ _ h, ne_eqb _ _ m)

pub touch : (a b : Segment) → a.last < b.first → b.first - a.last ≡ 1 → apart a b ≡ not (same_right a.right b.right)
unfolding apart
touch a b h e =
    let m : suc a.last ≡ b.first = omega arith in
    rw (lt-ltb _ _ h, eq-eqb _ _ m)

-- ---- the places behind a list

blank_next : (l : List Segment) (k : ℕ) (d : Segment) → k < length l → all_blank (drop k l) ≡ (is_blank (get_or l k d) && all_blank (drop (k + 1) l))
unfolding all_blank
blank_next l k d h = rw (add-one k, drop-cons l k d h)

pub blank_none : (l : List Segment) (k : ℕ) → length l ≤ k → all_blank (drop k l) ≡ true
unfolding all_blank
blank_none l k h = ap all_blank (drop_of_length-le l h)

pub blank_passed : (l : List Segment) (k : ℕ) (d : Segment) (z : Bool) → k < length l
    → (z && all_blank (drop k l)) ≡ ((z && is_blank (get_or l k d)) && all_blank (drop (k + 1) l))
blank_passed l k d true h = blank_next l k d h
blank_passed l k d false h = refl
