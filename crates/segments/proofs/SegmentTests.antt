-- A test over the segments of a list finds what a walk over its bytes finds.
use Prim.Native.Nat.{ℕ, suc, ◌≤◌, ◌<◌}
use mathlib.Core.Path.{◌≡◌, refl, sym, ap, ◌∙◌}
use mathlib.Core.Bool.{Bool, true, false, ◌&&◌, ◌||◌, false≢true}
use mathlib.Core.List.{List, [], ◌∷◌}
use native.Mathlib.Omega.{arith}
use native.Mathlib.Decide.{dec_le, dec_lt}
use borrow.Author.Tests.{le-leb, leb-true}
use lib.Dec.{leb}
use Rattle.base.proofs.AnswerLaws.{both, same_tests}
use Rattle.segments.specs.declared.Right.{Right}
use Rattle.segments.specs.declared.Right.TheVariants.{None}
use Rattle.segments.specs.declared.Segment.{Segment}
use Rattle.segments.specs.Segments.{any_below, any_meets, any_names, is_of_slot, right_at, segments_of, within}
use Rattle.segments.proofs.Canon.{Ord, Below, at_in, at_none, at_past, at_under, below_past, canon_ord, ord_under}
use Rattle.segments.proofs.ScanLaws.{any_ext, any_found, any_some, segments_below, segments_canon, segments_show}

-- a byte of the range that passes the test lies in a segment that meets the range
pub meets_some : (p : Right → Bool) (lo hi b : ℕ) (l : List Segment) (x : ℕ) → p None ≡ false → Ord b l → lo ≤ x → x ≤ hi → p (right_at l x) ≡ true
    → any_meets p lo hi l ≡ true
unfolding any_meets Ord
meets_some p lo hi b [] x n o h k e = absurd (false≢true (sym n ∙ (ap p (sym (at_none x)) ∙ e)))
meets_some p lo hi b (s ∷ l) x n o h k e =
    go (dec_lt x s.first) (dec_le x s.last) (meets_some p lo hi (suc s.last) l x n o.3 h k)
  where
    -- the head is not the one
    tail : any_meets p lo hi l ≡ true → ((leb s.first hi && leb lo s.last && p s.right) || any_meets p lo hi l) ≡ true
    tail f = skip (leb s.first hi && leb lo s.last && p s.right)
      where
        skip : (t : Bool) → (t || any_meets p lo hi l) ≡ true
        skip true = refl
        skip false = f

    go : Dec (x < s.first) → Dec (x ≤ s.last) → (p (right_at l x) ≡ true → any_meets p lo hi l ≡ true)
        → ((leb s.first hi && leb lo s.last && p s.right) || any_meets p lo hi l) ≡ true
    go (yes d) c rest =
        absurd (false≢true (sym n ∙ (ap p (sym (at_under s l x d ∙ ord_under (suc s.last) l o.3 x (omega arith))) ∙ e)))
    go (no d) (yes c) rest =
        let f : p s.right ≡ true = ap p (sym (at_in s l x (omega arith) c)) ∙ e in
        rw (le-leb s.first hi (omega arith), le-leb lo s.last (omega arith), f)
    go (no d) (no c) rest =
        tail (rest (ap p (sym (at_past s l x (omega arith))) ∙ e))

-- a segment that meets the range and passes the test has a byte of the range
pub meets_found : (p : Right → Bool) (lo hi b : ℕ) (l : List Segment) → lo ≤ hi → Ord b l → any_meets p lo hi l ≡ true
    → (x : ℕ) × (b ≤ x) × (lo ≤ x) × (x ≤ hi) × (p (right_at l x) ≡ true)
unfolding any_meets Ord
meets_found p lo hi b [] h o e = absurd (false≢true e)
meets_found p lo hi b (s ∷ l) h o e =
    go (leb s.first hi && leb lo s.last && p s.right) refl e (meets_found p lo hi (suc s.last) l h o.3)
  where
    go : (t : Bool) → (leb s.first hi && leb lo s.last && p s.right) ≡ t → (t || any_meets p lo hi l) ≡ true
        → (any_meets p lo hi l ≡ true → (x : ℕ) × (suc s.last ≤ x) × (lo ≤ x) × (x ≤ hi) × (p (right_at l x) ≡ true))
        → (x : ℕ) × (b ≤ x) × (lo ≤ x) × (x ≤ hi) × (p (right_at (s ∷ l) x) ≡ true)
    go true k f rest =
        let u = both (leb s.first hi && leb lo s.last) (p s.right) k in
        let v = both (leb s.first hi) (leb lo s.last) u.0 in
        let first : s.first ≤ hi = leb-true s.first hi v.0 in
        let last : lo ≤ s.last = leb-true lo s.last v.1 in
        start first last u.1 (dec_le lo s.first)
      where
        start : s.first ≤ hi → lo ≤ s.last → p s.right ≡ true → Dec (lo ≤ s.first)
            → (x : ℕ) × (b ≤ x) × (lo ≤ x) × (x ≤ hi) × (p (right_at (s ∷ l) x) ≡ true)
        start first last q (yes d) = (s.first, o.0, d, first, ap p (at_in s l s.first (omega arith) o.1) ∙ q)
        start first last q (no d) = (lo, omega arith, omega arith, h, ap p (at_in s l lo (omega arith) last) ∙ q)
    go false k f rest =
        let r = rest f in
        let d : suc s.last ≤ r.0 = r.1 in
        (r.0, omega arith, r.2, r.3, ap p (at_past s l r.0 d) ∙ r.4)

pub meets_scan : (N : ℕ) (f : ℕ → Right) (p : Right → Bool) (lo hi : ℕ) → lo ≤ hi → p None ≡ false
    → any_meets p lo hi (segments_of N f) ≡ any_below (λ x. within lo hi x && p (f x)) (suc N)
meets_scan N f p lo hi h n =
    same_tests (any_meets p lo hi (segments_of N f)) (any_below (λ x. within lo hi x && p (f x)) (suc N)) to from
  where
    o : Ord 0 (segments_of N f)
    o = canon_ord 0 None (segments_of N f) (segments_canon N f)

    to : any_meets p lo hi (segments_of N f) ≡ true → any_below (λ x. within lo hi x && p (f x)) (suc N) ≡ true
    to e = go (meets_found p lo hi 0 (segments_of N f) h o e)
      where
        go : ((x : ℕ) × (0 ≤ x) × (lo ≤ x) × (x ≤ hi) × (p (right_at (segments_of N f) x) ≡ true))
            → any_below (λ x. within lo hi x && p (f x)) (suc N) ≡ true
        go r = here (dec_le r.0 N)
          where
            here : Dec (r.0 ≤ N) → any_below (λ x. within lo hi x && p (f x)) (suc N) ≡ true
            here (yes d) =
                let q : p (f r.0) ≡ true = ap p (sym (segments_show N f r.0 d)) ∙ r.4 in
                any_some (λ x. within lo hi x && p (f x)) (suc N) r.0 (omega arith)
                (rw (le-leb lo r.0 r.2, le-leb r.0 hi r.3, q))
            here (no d) =
                absurd
                (false≢true
                (sym n ∙ (ap p (sym (below_past (suc N) (segments_of N f) (segments_below N f) r.0 (omega arith))) ∙ r.4)))

    from : any_below (λ x. within lo hi x && p (f x)) (suc N) ≡ true → any_meets p lo hi (segments_of N f) ≡ true
    from e =
        let r = any_found (λ x. within lo hi x && p (f x)) (suc N) e in
        let u = both (within lo hi r.0) (p (f r.0)) r.2 in
        let v = both (leb lo r.0) (leb r.0 hi) u.0 in
        meets_some p lo hi 0 (segments_of N f) r.0 n o (leb-true lo r.0 v.0) (leb-true r.0 hi v.1)
        (ap p (segments_show N f r.0 (omega arith)) ∙ u.1)

-- a list within the bytes 0 to N names the slots that its segments which meet them name
names_meet : (N i b : ℕ) (l : List Segment) → Ord b l → Below (suc N) l → any_names i l ≡ any_meets (is_of_slot i) 0 N l
unfolding any_names any_meets Ord Below
names_meet N i b [] o h = refl
names_meet N i b (s ∷ l) o h =
    rw (le-leb s.first N (omega arith), le-leb 0 s.last (omega arith), names_meet N i (suc s.last) l o.3 h.1)

pub names_scan : (N : ℕ) (f : ℕ → Right) (i : ℕ) → any_names i (segments_of N f) ≡ any_below (λ x. is_of_slot i (f x)) (suc N)
names_scan N f i =
    names_meet N i 0 (segments_of N f) (canon_ord 0 None (segments_of N f) (segments_canon N f)) (segments_below N f)
    ∙ (meets_scan N f (is_of_slot i) 0 N (omega arith) refl
    ∙ any_ext (λ x. within 0 N x && is_of_slot i (f x)) (λ x. is_of_slot i (f x)) (suc N)
    (λ x h. rw (le-leb 0 x (omega arith), le-leb x N (omega arith))))
