-- What the parts of a rising list before, inside and after a range show, and lists after each other.
use Prim.Native.Nat.{ℕ, suc, ◌+◌, ◌-◌, ◌≤◌, ◌<◌, max, min}
use mathlib.Core.Path.{◌≡◌, refl, sym, ap, ◌∙◌}
use mathlib.Core.Logic.{⊎_elim}
use mathlib.Core.Bool.{Bool, true, false}
use mathlib.Core.List.{List, [], ◌∷◌, ◌++◌}
use native.Mathlib.Omega.{arith}
use native.Mathlib.Decide.{dec_le, dec_lt}
use borrow.Author.Tests.{le-leb, le-ltb, lt-leb, lt-ltb}
use Rattle.base.specs.Answer.{pick}
use Rattle.base.specs.declared.SlotNumber.{SlotNumber}
use Rattle.segments.specs.declared.Right.TheVariants.{None, Granted}
use Rattle.segments.specs.declared.Segment.{Segment}
use Rattle.segments.specs.Segments.{right_at, same_right}
use Rattle.segments.proofs.Canon.{Below, Ord, at_in, at_none, at_past, at_under, granted_some, ord_less, ord_under, same_right_false, same_right_true}
use Rattle.table.specs.declared.change.Change.{Change}
use Rattle.table.specs.declared.change.Change.TheVariants.{Grant}
use Rattle.table.specs.Edits.{after, before, changed_right, cut_inside, inside, unless_none, middle, parts}
use Rattle.table.proofs.ChangeLaws.{KeepsNone, grants_or_keeps_none, middle_is_inside}
use Rattle.refinement.proofs.PushShows.{at_tail}

-- ---- lists behind each other

pub ord_append : (a b : ℕ) (l m : List Segment) → a ≤ b → Ord a l → Below b l → Ord b m → Ord a (l ++ m)
unfolding Ord Below
ord_append a b [] m h o k p = ord_less a b m h p
ord_append a b (s ∷ l) m h o k p = (o.0, o.1, o.2, ord_append (suc s.last) b l m k.0 o.3 k.1 p)

pub at_append_none : (l m : List Segment) (x : ℕ) → right_at m x ≡ None → right_at (l ++ m) x ≡ right_at l x
at_append_none [] m x h = h ∙ sym (at_none x)
at_append_none (s ∷ l) m x h = at_tail s (l ++ m) l x (at_append_none l m x h)

pub at_append_past : (b : ℕ) (l m : List Segment) (x : ℕ) → Below b l → b ≤ x → right_at (l ++ m) x ≡ right_at m x
unfolding Below
at_append_past b [] m x k h = refl
at_append_past b (s ∷ l) m x k h = at_past s (l ++ m) x (omega arith) ∙ at_append_past b l m x k.1 h

-- ---- before the range

abbrev cut_before : ℕ → Segment → Segment
cut_before first s = record { first = s.first; last = min s.last (first - 1); right = s.right }

before_cuts : (first : ℕ) (s : Segment) (l : List Segment) → s.first < first → parts (before first) (s ∷ l) ≡ cut_before first s ∷ parts (before first) l
unfolding parts before pick
before_cuts first s l h = rw (lt-ltb s.first first h)

pub before_skips : (first : ℕ) (s : Segment) (l : List Segment) → first ≤ s.first → parts (before first) (s ∷ l) ≡ parts (before first) l
unfolding parts before pick
before_skips first s l h = rw (le-ltb s.first first h)

abbrev Before : ℕ → ℕ → List Segment → List Segment → Type 0
Before first b l ps = Ord b ps × Below first ps × ((x : ℕ) → x < first → right_at ps x ≡ right_at l x)

pub before_shows : (first b : ℕ) (l : List Segment) → Ord b l → Before first b l (parts (before first) l)
unfolding Ord Below parts
before_shows first b [] o = (tt, tt, λ x h. refl)
before_shows first b (s ∷ l) o = go (dec_lt s.first first) (before_shows first (suc s.last) l o.3)
  where
    go : Dec (s.first < first) → Before first (suc s.last) l (parts (before first) l) → Before first b (s ∷ l) (parts (before first) (s ∷ l))
    go (yes d) h =
        rw (before_cuts first s l d) (
          (o.0, omega arith, o.2, ord_less (suc (min s.last (first - 1))) (suc s.last) (parts (before first) l) (omega arith) h.0),
          (omega arith, h.1),
          λ x k. see x k (dec_le s.first x) (dec_le x s.last),
        )
      where
        see : (x : ℕ) → x < first → Dec (s.first ≤ x) → Dec (x ≤ s.last) → right_at (cut_before first s ∷ parts (before first) l) x ≡ right_at (s ∷ l) x
        see x k (no p) q = at_under (cut_before first s) (parts (before first) l) x (omega arith) ∙ (h.2 x k ∙ sym (at_under s l x (omega arith)))
        see x k (yes p) (yes q) = at_in (cut_before first s) (parts (before first) l) x p (omega arith) ∙ sym (at_in s l x p q)
        see x k (yes p) (no q) = at_past (cut_before first s) (parts (before first) l) x (omega arith) ∙ (h.2 x k ∙ sym (at_past s l x (omega arith)))
    go (no d) h =
        rw (before_skips first s l (omega arith)) (
          ord_less b (suc s.last) (parts (before first) l) (omega arith) h.0,
          h.1,
          λ x k. h.2 x k ∙ sym (at_under s l x (omega arith)),
        )

-- ---- after the range

abbrev cut_after : ℕ → Segment → Segment
cut_after last s = record { first = max s.first (last + 1); last = s.last; right = s.right }

after_cuts : (last : ℕ) (s : Segment) (l : List Segment) → last < s.last → parts (after last) (s ∷ l) ≡ cut_after last s ∷ parts (after last) l
unfolding parts after pick
after_cuts last s l h = rw (lt-ltb last s.last h)

pub after_skips : (last : ℕ) (s : Segment) (l : List Segment) → s.last ≤ last → parts (after last) (s ∷ l) ≡ parts (after last) l
unfolding parts after pick
after_skips last s l h = rw (le-ltb last s.last h)

abbrev After : ℕ → ℕ → List Segment → List Segment → Type 0
After last b l ps = Ord (max b (suc last)) ps × ((x : ℕ) → last < x → right_at ps x ≡ right_at l x)

pub after_shows : (last b : ℕ) (l : List Segment) → Ord b l → After last b l (parts (after last) l)
unfolding Ord parts
after_shows last b [] o = (tt, λ x h. refl)
after_shows last b (s ∷ l) o = go (dec_lt last s.last) (after_shows last (suc s.last) l o.3)
  where
    go : Dec (last < s.last) → After last (suc s.last) l (parts (after last) l) → After last b (s ∷ l) (parts (after last) (s ∷ l))
    go (yes d) h =
        rw (after_cuts last s l d) (
          (omega arith, omega arith, o.2, ord_less (suc s.last) (max (suc s.last) (suc last)) (parts (after last) l) (omega arith) h.0),
          λ x k. see x k (dec_le s.first x) (dec_le x s.last),
        )
      where
        see : (x : ℕ) → last < x → Dec (s.first ≤ x) → Dec (x ≤ s.last) → right_at (cut_after last s ∷ parts (after last) l) x ≡ right_at (s ∷ l) x
        see x k (no p) q = at_under (cut_after last s) (parts (after last) l) x (omega arith) ∙ (h.1 x k ∙ sym (at_under s l x (omega arith)))
        see x k (yes p) (yes q) = at_in (cut_after last s) (parts (after last) l) x (omega arith) q ∙ sym (at_in s l x p q)
        see x k (yes p) (no q) = at_past (cut_after last s) (parts (after last) l) x (omega arith) ∙ (h.1 x k ∙ sym (at_past s l x (omega arith)))
    go (no d) h =
        rw (after_skips last s l (omega arith)) (
          ord_less (max b (suc last)) (max (suc s.last) (suc last)) (parts (after last) l) (omega arith) h.0,
          λ x k. h.1 x k ∙ sym (at_past s l x (omega arith)),
        )

-- ---- inside the range: a part that comes to none is dropped

module _ (c : Change) where
  pub inside_cuts : (first last : ℕ) (s : Segment) (l : List Segment) → s.first ≤ last → first ≤ s.last → same_right None (changed_right c s.right) ≡ false
      → parts (inside c first last) (s ∷ l) ≡ cut_inside c first last s ∷ parts (inside c first last) l
  unfolding parts inside unless_none pick
  inside_cuts first last s l h k e = rw (le-leb s.first last h, le-leb first s.last k, e)

  pub inside_drops : (first last : ℕ) (s : Segment) (l : List Segment) → s.first ≤ last → first ≤ s.last → same_right None (changed_right c s.right) ≡ true
      → parts (inside c first last) (s ∷ l) ≡ parts (inside c first last) l
  unfolding parts inside unless_none pick
  inside_drops first last s l h k e = rw (le-leb s.first last h, le-leb first s.last k, e)

  pub inside_skips_past : (first last : ℕ) (s : Segment) (l : List Segment) → last < s.first → parts (inside c first last) (s ∷ l) ≡ parts (inside c first last) l
  unfolding parts inside pick
  inside_skips_past first last s l h = rw (lt-leb s.first last h)

  pub inside_skips_under : (first last : ℕ) (s : Segment) (l : List Segment) → s.first ≤ last → s.last < first → parts (inside c first last) (s ∷ l) ≡ parts (inside c first last) l
  unfolding parts inside pick
  inside_skips_under first last s l h k = rw (le-leb s.first last h, lt-leb first s.last k)

  abbrev Inside : ℕ → ℕ → ℕ → List Segment → List Segment → Type 0
  Inside first last b l ps = Ord (max b first) ps × Below (suc last) ps × ((x : ℕ) → first ≤ x → x ≤ last → right_at ps x ≡ changed_right c (right_at l x))

  pub inside_shows : (first last b : ℕ) (l : List Segment) → KeepsNone c → first ≤ last → Ord b l → Inside first last b l (parts (inside c first last) l)
  unfolding Ord Below parts
  inside_shows first last b [] z n o = (tt, tt, λ x h k. at_none x ∙ (sym z ∙ ap (changed_right c) (sym (at_none x))))
  inside_shows first last b (s ∷ l) z n o =
      go (dec_le s.first last) (dec_le first s.last) (same_right None (changed_right c s.right)) refl (inside_shows first last (suc s.last) l z n o.3)
    where
      -- a byte before the segment, and one after it
      under : (ps : List Segment) (x : ℕ) → right_at ps x ≡ changed_right c (right_at l x) → x < s.first → right_at ps x ≡ changed_right c (right_at (s ∷ l) x)
      under ps x e p = e ∙ ap (changed_right c) (sym (at_under s l x p))

      past : (ps : List Segment) (x : ℕ) → right_at ps x ≡ changed_right c (right_at l x) → s.last < x → right_at ps x ≡ changed_right c (right_at (s ∷ l) x)
      past ps x e p = e ∙ ap (changed_right c) (sym (at_past s l x p))

      go : Dec (s.first ≤ last) → Dec (first ≤ s.last) → (t : Bool) → same_right None (changed_right c s.right) ≡ t
          → Inside first last (suc s.last) l (parts (inside c first last) l) → Inside first last b (s ∷ l) (parts (inside c first last) (s ∷ l))
      go (yes d) (yes e) false w h =
          rw (inside_cuts first last s l d e w) (
            (
              omega arith,
              omega arith,
              λ y. same_right_false None (changed_right c s.right) w (sym y),
              ord_less (suc (min s.last last)) (max (suc s.last) first) (parts (inside c first last) l) (omega arith) h.0,
            ),
            (omega arith, h.1),
            λ x k m. see x k m (dec_le s.first x) (dec_le x s.last),
          )
        where
          see : (x : ℕ) → first ≤ x → x ≤ last → Dec (s.first ≤ x) → Dec (x ≤ s.last)
              → right_at (cut_inside c first last s ∷ parts (inside c first last) l) x ≡ changed_right c (right_at (s ∷ l) x)
          see x k m (no p) q = at_under (cut_inside c first last s) (parts (inside c first last) l) x (omega arith) ∙ under (parts (inside c first last) l) x (h.2 x k m) (omega arith)
          see x k m (yes p) (yes q) = at_in (cut_inside c first last s) (parts (inside c first last) l) x (omega arith) (omega arith) ∙ ap (changed_right c) (sym (at_in s l x p q))
          see x k m (yes p) (no q) = at_past (cut_inside c first last s) (parts (inside c first last) l) x (omega arith) ∙ past (parts (inside c first last) l) x (h.2 x k m) (omega arith)
      go (yes d) (yes e) true w h =
          rw (inside_drops first last s l d e w) (
            ord_less (max b first) (max (suc s.last) first) (parts (inside c first last) l) (omega arith) h.0,
            h.1,
            λ x k m. see x k m (dec_le s.first x) (dec_le x s.last),
          )
        where
          see : (x : ℕ) → first ≤ x → x ≤ last → Dec (s.first ≤ x) → Dec (x ≤ s.last) → right_at (parts (inside c first last) l) x ≡ changed_right c (right_at (s ∷ l) x)
          see x k m (no p) q = under (parts (inside c first last) l) x (h.2 x k m) (omega arith)
          -- after the segment nothing begins before its last byte, and it has come to none itself
          see x k m (yes p) (yes q) =
              h.2 x k m
              ∙ (ap (changed_right c) (ord_under (suc s.last) l o.3 x (omega arith))
              ∙ (z ∙ (same_right_true None (changed_right c s.right) w ∙ ap (changed_right c) (sym (at_in s l x p q)))))
          see x k m (yes p) (no q) = past (parts (inside c first last) l) x (h.2 x k m) (omega arith)
      go (no d) e t w h =
          rw (inside_skips_past first last s l (omega arith)) (
            ord_less (max b first) (max (suc s.last) first) (parts (inside c first last) l) (omega arith) h.0,
            h.1,
            λ x k m. under (parts (inside c first last) l) x (h.2 x k m) (omega arith),
          )
      go (yes d) (no e) t w h =
          rw (inside_skips_under first last s l d (omega arith)) (
            ord_less (max b first) (max (suc s.last) first) (parts (inside c first last) l) (omega arith) h.0,
            h.1,
            λ x k m. past (parts (inside c first last) l) x (h.2 x k m) (omega arith),
          )

abbrev Middle : Change → ℕ → ℕ → List Segment → List Segment → Type 0
Middle c first last l ps = Ord first ps × Below (suc last) ps × ((x : ℕ) → first ≤ x → x ≤ last → right_at ps x ≡ changed_right c (right_at l x))

grant_shows : (i : SlotNumber) (first last : ℕ) (l : List Segment) → first ≤ last → Middle (Grant i) first last l (middle (Grant i) first last l)
unfolding middle Ord Below
grant_shows i first last l n = (
  (omega arith, n, granted_some i, tt),
  (omega arith, tt),
  λ x h k. at_in (record { first = first; last = last; right = Granted i }) [] x h k,
)

change_shows : (c : Change) (first last : ℕ) (l : List Segment) → KeepsNone c → first ≤ last → Ord 0 l → Middle c first last l (middle c first last l)
change_shows c first last l z n o =
    let h = inside_shows c first last 0 l z n o in
    rw (middle_is_inside c z first last l) (ord_less first (max 0 first) (parts (inside c first last) l) (omega arith) h.0, h.1, h.2)

pub middle_shows : (c : Change) (first last : ℕ) (l : List Segment) → first ≤ last → Ord 0 l → Middle c first last l (middle c first last l)
middle_shows c first last l n o = ⊎_elim (λ g. rw g.1 (grant_shows g.0 first last l n)) (λ z. change_shows c first last l z n o) (grants_or_keeps_none c)
