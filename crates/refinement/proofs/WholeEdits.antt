-- An edit of the whole file that is no grant never needs more segments than there were.
use Prim.Native.Nat.{ℕ, suc, ◌+◌, ◌≤◌}
use mathlib.Core.Path.{◌≡◌, refl, ◌∙◌}
use mathlib.Core.Bool.{Bool, true, false}
use mathlib.Core.List.{List, [], ◌∷◌, append-nil}
use native.Mathlib.Omega.{arith}
use native.Mathlib.Decide.{dec_le}
use lib.ListN.{length}
use Rattle.base.specs.Answer.{pick}
use Rattle.segments.specs.declared.Right.TheVariants.{None}
use Rattle.segments.specs.declared.Segment.{Segment}
use Rattle.segments.specs.Segments.{same_right}
use Rattle.segments.proofs.Canon.{Below}
use Rattle.table.specs.declared.change.Change.{Change}
use Rattle.table.specs.Edits.{after, before, changed_right, edited, inside, parts, push_all, push_seg, push_to, touching}
use Rattle.table.proofs.ChangeLaws.{KeepsNone, middle_is_inside}
use Rattle.table.proofs.PushLists.{joined}
use Rattle.refinement.proofs.PartsShow.{after_skips, before_skips, inside_cuts, inside_drops, inside_skips_past}

-- ---- pushes add at most what is pushed

push_to_adds_one : (a : Segment) (l : List Segment) (s : Segment) → length (push_to a l s) ≤ 2 + length l
unfolding push_to pick
push_to_adds_one a [] s = go (touching a s)
  where
    go : (b : Bool) → length (pick b (joined a s ∷ []) (a ∷ s ∷ [])) ≤ 2
    go true = omega arith
    go false = omega arith
push_to_adds_one a (b ∷ l) s = let h = push_to_adds_one b l s in omega arith

push_seg_adds_one : (l : List Segment) (s : Segment) → length (push_seg l s) ≤ 1 + length l
unfolding push_seg
push_seg_adds_one [] s = omega arith
push_seg_adds_one (a ∷ l) s = let h = push_to_adds_one a l s in omega arith

pub push_all_adds_at_most : (l ps : List Segment) → length (push_all l ps) ≤ length l + length ps
unfolding push_all
push_all_adds_at_most l [] = omega arith
push_all_adds_at_most l (s ∷ ps) =
    let h = push_all_adds_at_most (push_seg l s) ps in
    let k = push_seg_adds_one l s in
    omega arith

-- ---- the parts of a file's segments

none_before : (l : List Segment) → parts (before 0) l ≡ []
unfolding parts
none_before [] = refl
none_before (s ∷ l) = before_skips 0 s l (omega arith) ∙ none_before l

none_after : (last : ℕ) (l : List Segment) → Below (suc last) l → parts (after last) l ≡ []
unfolding parts Below
none_after last [] b = refl
none_after last (s ∷ l) b = after_skips last s l (omega arith) ∙ none_after last l b.1

no_more_inside : (c : Change) (last : ℕ) (l : List Segment) → length (parts (inside c 0 last) l) ≤ length l
unfolding parts
no_more_inside c last [] = omega arith
no_more_inside c last (s ∷ l) = go (dec_le s.first last) (same_right None (changed_right c s.right)) refl (no_more_inside c last l)
  where
    go : Dec (s.first ≤ last) → (b : Bool) → same_right None (changed_right c s.right) ≡ b → length (parts (inside c 0 last) l) ≤ length l
        → length (parts (inside c 0 last) (s ∷ l)) ≤ suc (length l)
    go (yes d) false w h = rw (inside_cuts c 0 last s l d (omega arith) w) (omega arith)
    go (yes d) true w h = rw (inside_drops c 0 last s l d (omega arith) w) (omega arith)
    go (no d) b w h = rw (inside_skips_past c 0 last s l (omega arith)) (omega arith)

-- ---- the edits

pub whole_needs_no_more : (c : Change) → KeepsNone c → (last : ℕ) (l : List Segment) → Below (suc last) l → length (edited c 0 last l) ≤ length l
unfolding edited
whole_needs_no_more c z last l b =
    let h = push_all_adds_at_most [] (parts (inside c 0 last) l) in
    let k = no_more_inside c last l in
    rw (none_before l, none_after last l b, middle_is_inside c z 0 last l, append-nil (parts (inside c 0 last) l)) (omega arith)
