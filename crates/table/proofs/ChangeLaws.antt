-- What a change makes of rights, and of the segments in its range.
use Prim.Native.Nat.{ℕ}
use mathlib.Core.Path.{◌≡◌, refl}
use mathlib.Core.Logic.{◌⊎◌, inl, inr}
use mathlib.Core.Bool.{Bool, true, false, ◌&&◌}
use mathlib.Core.List.{List, [], ◌∷◌}
use lib.Dec.{leb}
use Rattle.base.specs.Answer.{pick}
use Rattle.base.specs.declared.SlotNumber.{SlotNumber}
use Rattle.segments.specs.declared.Right.TheVariants.{None}
use Rattle.segments.specs.declared.Segment.{Segment}
use Rattle.segments.proofs.Canon.{granted_some}
use Rattle.table.specs.declared.change.Change.{Change}
use Rattle.table.specs.declared.change.Change.TheVariants.{Grant, Clear, Recall}
use Rattle.table.specs.Edits.{changed_right, inside, unless_none, middle, parts}

-- ---- rights

-- none stays none
abbrev pub KeepsNone : Change → Type 0
KeepsNone c = changed_right c None ≡ None

pub grants_or_keeps_none : (c : Change) → ((s : SlotNumber) × (c ≡ Grant s)) ⊎ KeepsNone c
grants_or_keeps_none (Grant s) = inl (s, refl)
grants_or_keeps_none Clear = inr refl
grants_or_keeps_none Recall = inr refl

-- ---- the range

pub middle_is_inside : (c : Change) → KeepsNone c → (lo hi : ℕ) (l : List Segment) → middle c lo hi l ≡ parts (inside c lo hi) l
unfolding middle
middle_is_inside (Grant s) k lo hi l = absurd (granted_some s k)
middle_is_inside Clear k lo hi l = refl
middle_is_inside Recall k lo hi l = refl

pub clear_drops : (lo hi : ℕ) (s : Segment) → inside Clear lo hi s ≡ []
unfolding inside unless_none pick
clear_drops lo hi s = go (leb s.first hi && leb lo s.last)
  where
    go : (b : Bool) → pick {A = List Segment} b [] [] ≡ []
    go true = refl
    go false = refl

pub clear_leaves_nothing : (lo hi : ℕ) (l : List Segment) → parts (inside Clear lo hi) l ≡ []
unfolding parts
clear_leaves_nothing lo hi [] = refl
clear_leaves_nothing lo hi (s ∷ l) = rw (clear_drops lo hi s) (clear_leaves_nothing lo hi l)
