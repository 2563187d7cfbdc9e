-- A canonical list is the shortest of the rising lists that show the same, and the only canonical one.
use Prim.Native.Nat.{ℕ, suc, ◌≤◌, ◌<◌}
use mathlib.Core.Path.{◌≡◌, refl, sym, ap, ap₂, ◌∙◌}
use mathlib.Core.Logic.{◌⊎◌, inl, inr, ⊎_elim}
use mathlib.Core.List.{List, [], ◌∷◌}
use native.Mathlib.Omega.{arith}
use native.Mathlib.Decide.{dec_le, dec_lt}
use lib.ListN.{length}
use Rattle.segments.specs.declared.Right.{Right}
use Rattle.segments.specs.declared.Right.TheVariants.{None}
use Rattle.segments.specs.declared.Segment.{Segment}
use Rattle.segments.specs.Segments.{right_at, segments_of}
use Rattle.segments.proofs.Canon.{Canon, Ord, Below, at_in, at_none, at_past, at_under, below_past, canon_ord, canon_changes, ord_under}
use Rattle.segments.proofs.ScanLaws.{segments_canon, segments_past, segments_show}

pub same_segment : (s t : Segment) → s.first ≡ t.first → s.last ≡ t.last → s.right ≡ t.right → s ≡ t
same_segment s t p q r = λ i. record { first = p i; last = q i; right = r i }

-- a list that shows something at the head of another does not begin after it
begins : (a b : ℕ) (s t : Segment) (l k : List Segment) → Ord a (s ∷ l) → Ord b (t ∷ k)
    → ((x : ℕ) → right_at (s ∷ l) x ≡ right_at (t ∷ k) x) → s.first ≤ t.first
unfolding Ord
begins a b s t l k o q e = go (dec_le s.first t.first)
  where
    go : Dec (s.first ≤ t.first) → s.first ≤ t.first
    go (yes h) = h
    go (no h) =
        absurd
        (q.2
        (sym (at_in t k t.first (omega arith) q.1)
        ∙ (sym (e t.first)
        ∙ (at_under s l t.first (omega arith) ∙ ord_under (suc s.last) l o.3 t.first (omega arith)))))

-- induction on the other list: where its head is shorter than ours, go on with what it leaves of ours
pub fewest : (lo₁ lo₂ : ℕ) (r : Right) (l k : List Segment) → Canon lo₁ r l → Ord lo₂ k → ((x : ℕ) → right_at l x ≡ right_at k x)
    → (l ≡ k) ⊎ (length l < length k)
unfolding Canon Ord
fewest lo₁ lo₂ r [] [] c o e = inl refl
fewest lo₁ lo₂ r [] (t ∷ k) c o e = inr (omega arith)
fewest lo₁ lo₂ r (s ∷ l) [] c o e =
    absurd (c.2 (sym (at_in s l s.first (omega arith) c.1) ∙ (e s.first ∙ at_none s.first)))
fewest lo₁ lo₂ r (s ∷ l) (t ∷ k) c o e =
    go (dec_le t.last s.last) (dec_lt t.last s.last) (λ lo q m d g. fewest lo (suc t.last) q m k d o.3 g)
  where
    Rest : Type 0
    Rest = (lo : ℕ) (q : Right) (m : List Segment) → Canon lo q m → ((x : ℕ) → right_at m x ≡ right_at k x) → (m ≡ k) ⊎ (length m < length k)

    os : Ord lo₁ (s ∷ l)
    os = canon_ord lo₁ r (s ∷ l) c

    first : s.first ≡ t.first
    first =
        let h = begins lo₁ lo₂ s t l k os o e in
        let g = begins lo₂ lo₁ t s k l o os (λ x. sym (e x)) in
        omega arith

    right : s.right ≡ t.right
    right =
        let f : s.first ≡ t.first = first in
        sym (at_in s l s.first (omega arith) c.1) ∙ (e s.first ∙ at_in t k s.first (omega arith) (omega arith))

    -- what each tail shows
    tails : (x : ℕ) → s.last < x → t.last < x → right_at l x ≡ right_at k x
    tails x h g = sym (at_past s l x h) ∙ (e x ∙ at_past t k x g)

    go : Dec (t.last ≤ s.last) → Dec (t.last < s.last) → Rest → (s ∷ l ≡ t ∷ k) ⊎ (length (s ∷ l) < length (t ∷ k))
    go (no h) d rest =
        let f : s.first ≡ t.first = first in
        absurd
        (canon_changes (suc s.last) s.right l c.2 c.4
        (sym (at_past s l (suc s.last) (omega arith))
        ∙ (e (suc s.last) ∙ (at_in t k (suc s.last) (omega arith) (omega arith) ∙ sym right))))
    go (yes h) (yes d) rest =
        let f : s.first ≡ t.first = first in
        let u : Segment = record { first = suc t.last; last = s.last; right = s.right } in
        let cu : Canon (suc t.last) None (u ∷ l) = (omega arith, omega arith, c.2, λ z. c.2, c.4) in
        ⊎_elim (λ p. inr (let n : suc (length l) ≡ length k = ap length p in omega arith)) (λ p. inr (omega arith))
        (rest (suc t.last) None (u ∷ l) cu (shows u refl refl refl))
      where
        shows : (u : Segment) → u.first ≡ suc t.last → u.last ≡ s.last → u.right ≡ s.right → (x : ℕ) → right_at (u ∷ l) x ≡ right_at k x
        shows u f1 f2 f3 x = parts (dec_le x t.last) (dec_le x s.last)
          where
            parts : Dec (x ≤ t.last) → Dec (x ≤ s.last) → right_at (u ∷ l) x ≡ right_at k x
            parts (yes a) b =
                at_under u l x (omega arith)
                ∙ (ord_under (suc s.last) l os.3 x (omega arith) ∙ sym (ord_under (suc t.last) k o.3 x (omega arith)))
            parts (no a) (yes b) =
                let f : s.first ≡ t.first = first in
                at_in u l x (omega arith) (omega arith)
                ∙ (f3 ∙ (sym (at_in s l x (omega arith) b) ∙ (e x ∙ at_past t k x (omega arith))))
            parts (no a) (no b) =
                at_past u l x (omega arith) ∙ tails x (omega arith) (omega arith)
    go (yes h) (no d) rest =
        let last : s.last ≡ t.last = omega arith in
        ⊎_elim (λ p. inl (ap₂ {C = List Segment} (λ a b. a ∷ b) (same_segment s t first last right) p)) (λ p. inr (omega arith))
        (rest (suc s.last) s.right l c.4 shows)
      where
        shows : (x : ℕ) → right_at l x ≡ right_at k x
        shows x = parts (dec_le x s.last)
          where
            parts : Dec (x ≤ s.last) → right_at l x ≡ right_at k x
            parts (yes a) = ord_under (suc s.last) l os.3 x (omega arith) ∙ sym (ord_under (suc t.last) k o.3 x (omega arith))
            parts (no a) = tails x (omega arith) (omega arith)

pub unique : (lo₁ lo₂ : ℕ) (r₁ r₂ : Right) (l m : List Segment) → Canon lo₁ r₁ l → Canon lo₂ r₂ m → ((x : ℕ) → right_at l x ≡ right_at m x) → l ≡ m
unique lo₁ lo₂ r₁ r₂ l m c d e =
    ⊎_elim (λ p. p) (λ h. ⊎_elim (λ p. sym p) (λ k. absurd (omega arith)) (fewest lo₂ lo₁ r₂ m l d (canon_ord lo₁ r₁ l c) (λ x. sym (e x))))
    (fewest lo₁ lo₂ r₁ l m c (canon_ord lo₂ r₂ m d) e)

-- the canonical list that shows f on the bytes 0 to N is the one worked out afresh
pub scan_only : (N : ℕ) (f : ℕ → Right) (l : List Segment) → Canon 0 None l → Below (suc N) l → ((x : ℕ) → x ≤ N → right_at l x ≡ f x)
    → l ≡ segments_of N f
scan_only N f l c b h = unique 0 0 None None l (segments_of N f) c (segments_canon N f) λ x. go x (dec_le x N)
  where
    go : (x : ℕ) → Dec (x ≤ N) → right_at l x ≡ right_at (segments_of N f) x
    go x (yes d) = h x d ∙ sym (segments_show N f x d)
    go x (no d) = below_past (suc N) l b x (omega arith) ∙ sym (segments_past N f x (omega arith))
