-- An edited list is canonical and shows the changed rights; of the list worked out afresh it is the list worked out afresh.
use Prim.Native.Nat.{ℕ, suc, ◌≤◌, ◌<◌, max}
use mathlib.Core.Path.{◌≡◌, refl, sym, ap, ◌∙◌}
use mathlib.Core.Bool.{Bool, true, false, ◌&&◌}
use mathlib.Core.List.{List, [], ◌++◌}
use native.Mathlib.Omega.{arith}
use native.Mathlib.Decide.{dec_le}
use borrow.Author.Tests.{le-leb, lt-leb}
use lib.Dec.{leb}
use Rattle.base.specs.Answer.{pick}
use Rattle.segments.specs.declared.Right.{Right}
use Rattle.segments.specs.declared.Right.TheVariants.{None}
use Rattle.segments.specs.declared.Segment.{Segment}
use Rattle.segments.specs.Segments.{right_at, segments_of, within}
use Rattle.segments.proofs.Canon.{Canon, Ord, canon_ord, ord_less, ord_under}
use Rattle.segments.proofs.ScanLaws.{segments_canon, segments_past, segments_show}
use Rattle.segments.proofs.Fewest.{unique}
use Rattle.table.specs.declared.change.Change.{Change}
use Rattle.table.specs.Edits.{after, before, changed_right, edited, middle, parts}
use Rattle.refinement.proofs.Changed.{changed_fun}
use Rattle.refinement.proofs.PushShows.{push_all_shows}
use Rattle.refinement.proofs.PartsShow.{after_shows, at_append_none, at_append_past, before_shows, middle_shows, ord_append}

-- ---- the changed rights

changed_under : (c : Change) (first last : ℕ) (f : ℕ → Right) (x : ℕ) → x < first → changed_fun c first last f x ≡ f x
unfolding changed_fun pick
changed_under c first last f x h = rw (lt-leb first x h)

changed_inside : (c : Change) (first last : ℕ) (f : ℕ → Right) (x : ℕ) → first ≤ x → x ≤ last → changed_fun c first last f x ≡ changed_right c (f x)
unfolding changed_fun pick
changed_inside c first last f x h k = rw (le-leb first x h, le-leb x last k)

changed_past : (c : Change) (first last : ℕ) (f : ℕ → Right) (x : ℕ) → last < x → changed_fun c first last f x ≡ f x
unfolding changed_fun pick
changed_past c first last f x h = rw (lt-leb x last h) (go (leb first x))
  where
    go : (b : Bool) → pick (b && false) (changed_right c (f x)) (f x) ≡ f x
    go true = refl
    go false = refl

changed_alike : (c : Change) (first last : ℕ) (f g : ℕ → Right) (x : ℕ) → f x ≡ g x → changed_fun c first last f x ≡ changed_fun c first last g x
unfolding changed_fun
changed_alike c first last f g x h = ap (λ (r : Right). pick (within first last x) (changed_right c r) r) h

-- ---- the edited list

pub edited_shows : (c : Change) (first last : ℕ) (l : List Segment) → first ≤ last → Ord 0 l
    → Canon 0 None (edited c first last l) × ((x : ℕ) → right_at (edited c first last l) x ≡ changed_fun c first last (right_at l) x)
unfolding edited Canon
edited_shows c first last l n o =
    let g = push_all_shows [] (parts (before first) l ++ (middle c first last l ++ parts (after last) l)) whole tt in
    (g.0, λ x. g.1 x ∙ see x (dec_le first x) (dec_le x last))
  where
    rest : Ord (suc last) (parts (after last) l)
    rest = ord_less (suc last) (max 0 (suc last)) (parts (after last) l) (omega arith) (after_shows last 0 l o).0

    behind : Ord first (middle c first last l ++ parts (after last) l)
    behind =
        let m = middle_shows c first last l n o in
        ord_append first (suc last) (middle c first last l) (parts (after last) l) (omega arith) m.0 m.1 rest

    whole : Ord 0 (parts (before first) l ++ (middle c first last l ++ parts (after last) l))
    whole =
        let b = before_shows first 0 l o in
        ord_append 0 first (parts (before first) l) (middle c first last l ++ parts (after last) l) (omega arith) b.0 b.1 behind

    past : (x : ℕ) → first ≤ x
        → right_at (parts (before first) l ++ (middle c first last l ++ parts (after last) l)) x ≡ right_at (middle c first last l ++ parts (after last) l) x
    past x h = at_append_past first (parts (before first) l) (middle c first last l ++ parts (after last) l) x (before_shows first 0 l o).1 h

    see : (x : ℕ) → Dec (first ≤ x) → Dec (x ≤ last)
        → right_at (parts (before first) l ++ (middle c first last l ++ parts (after last) l)) x ≡ changed_fun c first last (right_at l) x
    see x (no p) q =
        at_append_none (parts (before first) l) (middle c first last l ++ parts (after last) l) x (ord_under first _ behind x (omega arith))
        ∙ ((before_shows first 0 l o).2 x (omega arith) ∙ sym (changed_under c first last (right_at l) x (omega arith)))
    see x (yes p) (yes q) =
        past x p
        ∙ (at_append_none (middle c first last l) (parts (after last) l) x (ord_under (suc last) (parts (after last) l) rest x (omega arith))
        ∙ ((middle_shows c first last l n o).2 x p q ∙ sym (changed_inside c first last (right_at l) x p q)))
    see x (yes p) (no q) =
        past x p
        ∙ (at_append_past (suc last) (middle c first last l) (parts (after last) l) x (middle_shows c first last l n o).1 (omega arith)
        ∙ ((after_shows last 0 l o).1 x (omega arith) ∙ sym (changed_past c first last (right_at l) x (omega arith))))

pub edit_scan : (N : ℕ) (f : ℕ → Right) (c : Change) (first last : ℕ) → first ≤ last → last ≤ N
    → edited c first last (segments_of N f) ≡ segments_of N (changed_fun c first last f)
edit_scan N f c first last n m =
    let g = edited_shows c first last (segments_of N f) n (canon_ord 0 None (segments_of N f) (segments_canon N f)) in
    unique 0 0 None None (edited c first last (segments_of N f)) (segments_of N (changed_fun c first last f)) g.0 (segments_canon N (changed_fun c first last f))
    λ x. g.1 x ∙ go x (dec_le x N)
  where
    go : (x : ℕ) → Dec (x ≤ N) → changed_fun c first last (right_at (segments_of N f)) x ≡ right_at (segments_of N (changed_fun c first last f)) x
    go x (yes d) =
        changed_alike c first last (right_at (segments_of N f)) f x (segments_show N f x d)
        ∙ sym (segments_show N (changed_fun c first last f) x d)
    go x (no d) =
        changed_past c first last (right_at (segments_of N f)) x (omega arith)
        ∙ (segments_past N f x (omega arith) ∙ sym (segments_past N (changed_fun c first last f) x (omega arith)))
