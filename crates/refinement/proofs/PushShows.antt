-- A list pushed segment by segment is canonical, and shows what the segments show.
use Prim.Native.Nat.{ℕ, suc, ◌+◌, ◌≤◌}
use mathlib.Core.Path.{◌≡◌, refl, sym, ap, ◌∙◌}
use mathlib.Core.Bool.{Bool, true, false, ◌&&◌, false≢true}
use mathlib.Core.List.{List, [], ◌∷◌, ◌++◌, append-nil}
use native.Mathlib.Omega.{arith}
use native.Mathlib.Decide.{dec_le}
use borrow.Author.Tests.{eq-eqb, eqb-true}
use lib.Dec.{eqb}
use Rattle.base.specs.Answer.{pick}
use Rattle.segments.specs.declared.Right.{Right}
use Rattle.segments.specs.declared.Right.TheVariants.{None}
use Rattle.segments.specs.declared.Segment.{Segment}
use Rattle.segments.specs.Segments.{right_at, same_right, within}
use Rattle.segments.proofs.Canon.{Canon, Ord, at_in, at_past, at_under, same_right_refl, same_right_true}
use Rattle.table.specs.Edits.{push_all, push_seg, push_to, touching}
use Rattle.table.proofs.PushLists.{joined}

-- ---- when two segments touch

pub touching_true : (a s : Segment) → touching a s ≡ true → (a.last + 1 ≡ s.first) × (a.right ≡ s.right)
unfolding touching
touching_true a s e = go (eqb (a.last + 1) s.first) refl e
  where
    go : (b : Bool) → eqb (a.last + 1) s.first ≡ b → (b && same_right a.right s.right) ≡ true
        → (a.last + 1 ≡ s.first) × (a.right ≡ s.right)
    go true h k = (eqb-true (a.last + 1) s.first h, same_right_true a.right s.right k)
    go false h k = absurd (false≢true k)

pub touching_false : (a s : Segment) → touching a s ≡ false → s.first ≡ suc a.last → s.right ≡ a.right → ⊥
unfolding touching
touching_false a s e h k =
    let q : eqb (a.last + 1) s.first ≡ true = eq-eqb (a.last + 1) s.first (omega arith) in
    let r : same_right a.right s.right ≡ true = rw k (same_right_refl a.right) in
    false≢true (sym e ∙ rw (q, r))

-- ---- what lists with the same head show

pub at_tail : (a : Segment) (l m : List Segment) (x : ℕ) → right_at l x ≡ right_at m x → right_at (a ∷ l) x ≡ right_at (a ∷ m) x
unfolding right_at
at_tail a l m x h = ap (λ (r : Right). pick (within a.first a.last x) a.right r) h

joined_shows : (a s : Segment) (m : List Segment) (x : ℕ) → a.first ≤ a.last → s.first ≤ s.last → a.last + 1 ≡ s.first → a.right ≡ s.right
    → right_at (joined a s ∷ m) x ≡ right_at (a ∷ s ∷ m) x
joined_shows a s m x f g h k = go (dec_le a.first x) (dec_le x a.last) (dec_le x s.last)
  where
    go : Dec (a.first ≤ x) → Dec (x ≤ a.last) → Dec (x ≤ s.last) → right_at (joined a s ∷ m) x ≡ right_at (a ∷ s ∷ m) x
    go (no p) q r = at_under (joined a s) m x (omega arith) ∙ sym (at_under a (s ∷ m) x (omega arith) ∙ at_under s m x (omega arith))
    go (yes p) (yes q) r = at_in (joined a s) m x p (omega arith) ∙ sym (at_in a (s ∷ m) x p q)
    go (yes p) (no q) (yes r) =
        at_in (joined a s) m x p r ∙ (k ∙ sym (at_past a (s ∷ m) x (omega arith) ∙ at_in s m x (omega arith) r))
    go (yes p) (no q) (no r) =
        at_past (joined a s) m x (omega arith) ∙ sym (at_past a (s ∷ m) x (omega arith) ∙ at_past s m x (omega arith))

-- ---- pushes

-- a push with the segments m still to come: canonical, rising with m, and the same to see
abbrev Pushed : ℕ → Right → List Segment → List Segment → List Segment → Type 0
Pushed first r out m all = Canon first r out × Ord first (out ++ m) × ((x : ℕ) → right_at (out ++ m) x ≡ right_at all x)

push_to_shows : (first : ℕ) (r : Right) (a : Segment) (l : List Segment) (s : Segment) (m : List Segment) → Ord first (a ∷ (l ++ (s ∷ m))) → Canon first r (a ∷ l)
    → Pushed first r (push_to a l s) m (a ∷ (l ++ (s ∷ m)))
unfolding push_to Canon Ord pick
push_to_shows first r a [] s m o c = go (touching a s) refl
  where
    go : (b : Bool) → touching a s ≡ b → Pushed first r (pick b (joined a s ∷ []) (a ∷ s ∷ [])) m (a ∷ s ∷ m)
    go true e =
        let t = touching_true a s e in
        let o3 = o.3 in (
          (o.0, omega arith, c.2, c.3, tt),
          (o.0, omega arith, c.2, o3.3),
          λ x. joined_shows a s m x o.1 o3.1 t.0 t.1,
        )
    go false e = let o3 = o.3 in ((o.0, o.1, c.2, c.3, (o3.0, o3.1, o3.2, touching_false a s e, tt)), o, λ x. refl)
push_to_shows first r a (b ∷ l) s m o c =
    let h = push_to_shows (suc a.last) a.right b l s m o.3 c.4 in (
      (c.0, c.1, c.2, c.3, h.0),
      (o.0, o.1, o.2, h.1),
      λ x. at_tail a (push_to b l s ++ m) (b ∷ (l ++ (s ∷ m))) x (h.2 x),
    )

push_seg_shows : (l : List Segment) (s : Segment) (m : List Segment) → Ord 0 (l ++ (s ∷ m)) → Canon 0 None l → Pushed 0 None (push_seg l s) m (l ++ (s ∷ m))
unfolding push_seg Canon Ord
push_seg_shows [] s m o c = ((o.0, o.1, o.2, λ e n. o.2 n, tt), o, λ x. refl)
push_seg_shows (a ∷ l) s m o c = push_to_shows 0 None a l s m o c

pub push_all_shows : (l ps : List Segment) → Ord 0 (l ++ ps) → Canon 0 None l
    → Canon 0 None (push_all l ps) × ((x : ℕ) → right_at (push_all l ps) x ≡ right_at (l ++ ps) x)
unfolding push_all
push_all_shows l [] o c = (c, λ x. ap (λ (k : List Segment). right_at k x) (sym (append-nil l)))
push_all_shows l (s ∷ ps) o c =
    let g = push_seg_shows l s ps o c in
    let h = push_all_shows (push_seg l s) ps g.1 g.0 in
    (h.0, λ x. h.1 x ∙ g.2 x)
