-- Lists of segments in rising order, those of them in which touching neighbours differ, and what they show at a byte.
use Prim.Native.Nat.{ℕ, zero, suc, ◌≤◌, ◌<◌}
use mathlib.Core.Path.{◌≡◌, refl, sym, ap, ap₂, ◌∙◌}
use mathlib.Core.Bool.{Bool, true, false, ◌&&◌, false≢true}
use mathlib.Core.List.{List, [], ◌∷◌}
use native.Mathlib.Omega.{arith}
use native.Mathlib.Decide.{dec_le}
use borrow.Author.Tests.{le-leb, lt-leb, eqb-true, eq-eqb}
use lib.Dec.{leb, eqb}
use Rattle.base.specs.Answer.{pick}
use Rattle.base.proofs.AnswerLaws.{both}
use Rattle.base.specs.declared.SlotNumber.{SlotNumber}
use Rattle.segments.specs.declared.Right.{Right}
use Rattle.segments.specs.declared.Right.TheVariants.{None, Granted, Recalled}
use Rattle.segments.specs.declared.Segment.{Segment}
use Rattle.segments.specs.Segments.{kind_of, right_at, same_right, slot_number_of}

-- from lo on, after a segment of right r that ends right before lo: rising, and touching neighbours differ
unfoldable pub Canon : ℕ → Right → List Segment → Type 0
Canon lo r [] = Unit {0}
Canon lo r (s ∷ l) =
    (lo ≤ s.first)
    × (s.first ≤ s.last)
    × (s.right ≡ None → ⊥)
    × (s.first ≡ lo → s.right ≡ r → ⊥)
    × Canon (suc s.last) s.right l

-- from lo on, rising
unfoldable pub Ord : ℕ → List Segment → Type 0
Ord lo [] = Unit {0}
Ord lo (s ∷ l) = (lo ≤ s.first) × (s.first ≤ s.last) × (s.right ≡ None → ⊥) × Ord (suc s.last) l

-- every segment ends below n
unfoldable pub Below : ℕ → List Segment → Type 0
Below n [] = Unit {0}
Below n (s ∷ l) = (s.last < n) × Below n l

-- ---- rights

pub granted_some : (i : SlotNumber) → Granted i ≡ None → ⊥
granted_some i e = let z : ◌≡◌ {A = ℕ} 0 1 = cc in omega arith

pub recalled_some : (i : SlotNumber) → Recalled i ≡ None → ⊥
recalled_some i e = let z : ◌≡◌ {A = ℕ} 0 1 = cc in omega arith

-- the right of a kind under a slot
right_of : ℕ → ℕ → Right
right_of zero s = None
right_of (suc zero) s = Granted (record { 0 = s })
right_of (suc (suc k)) s = Recalled (record { 0 = s })

kind_and_slot_tell : (r : Right) → right_of (kind_of r) (slot_number_of r) ≡ r
unfolding right_of
kind_and_slot_tell None = refl
kind_and_slot_tell (Granted s) = refl
kind_and_slot_tell (Recalled s) = refl

pub same_right_true : (a b : Right) → same_right a b ≡ true → a ≡ b
same_right_true a b e =
    let u = both (eqb (kind_of a) (kind_of b)) (eqb (slot_number_of a) (slot_number_of b)) e in
    sym (kind_and_slot_tell a)
    ∙ (ap₂ right_of (eqb-true (kind_of a) (kind_of b) u.0) (eqb-true (slot_number_of a) (slot_number_of b) u.1)
    ∙ kind_and_slot_tell b)

pub same_right_refl : (a : Right) → same_right a a ≡ true
same_right_refl a = rw (eq-eqb (kind_of a) (kind_of a) refl, eq-eqb (slot_number_of a) (slot_number_of a) refl)

pub same_right_false : (a b : Right) → same_right a b ≡ false → a ≡ b → ⊥
same_right_false a b e p = false≢true (sym e ∙ (ap (λ (x : Right). same_right a x) (sym p) ∙ same_right_refl a))

-- ---- what the head shows

pub at_in : (s : Segment) (l : List Segment) (x : ℕ) → s.first ≤ x → x ≤ s.last → right_at (s ∷ l) x ≡ s.right
unfolding right_at pick
at_in s l x h k = simp (le-leb s.first x h, le-leb x s.last k)

pub at_under : (s : Segment) (l : List Segment) (x : ℕ) → x < s.first → right_at (s ∷ l) x ≡ right_at l x
unfolding right_at pick
at_under s l x h = simp (lt-leb s.first x h)

pub at_past : (s : Segment) (l : List Segment) (x : ℕ) → s.last < x → right_at (s ∷ l) x ≡ right_at l x
unfolding right_at pick
at_past s l x h = go (leb s.first x)
  where
    go : (t : Bool) → pick (t && leb x s.last) s.right (right_at l x) ≡ right_at l x
    go true = simp (lt-leb x s.last h)
    go false = refl

pub at_none : (x : ℕ) → right_at [] x ≡ None
unfolding right_at
at_none x = refl

-- ---- rising lists

pub ord_less : (a b : ℕ) (l : List Segment) → a ≤ b → Ord b l → Ord a l
unfolding Ord
ord_less a b [] h o = tt
ord_less a b (s ∷ l) h o = (omega arith, o.1, o.2, o.3)

-- nothing is shown below the bound
pub ord_under : (lo : ℕ) (l : List Segment) → Ord lo l → (x : ℕ) → x < lo → right_at l x ≡ None
unfolding Ord
ord_under lo [] o x h = at_none x
ord_under lo (s ∷ l) o x h =
    at_under s l x (omega arith) ∙ ord_under (suc s.last) l o.3 x (omega arith)

-- nor past the end
pub below_past : (n : ℕ) (l : List Segment) → Below n l → (x : ℕ) → n ≤ x → right_at l x ≡ None
unfolding Below
below_past n [] b x h = at_none x
below_past n (s ∷ l) b x h = at_past s l x (omega arith) ∙ below_past n l b.1 x h

pub below_more : (m n : ℕ) (l : List Segment) → m ≤ n → Below m l → Below n l
unfolding Below
below_more m n [] h b = tt
below_more m n (s ∷ l) h b = (omega arith, below_more m n l h b.1)

-- ---- canonical lists

pub canon_ord : (lo : ℕ) (r : Right) (l : List Segment) → Canon lo r l → Ord lo l
unfolding Canon Ord
canon_ord lo r [] c = tt
canon_ord lo r (s ∷ l) c = (c.0, c.1, c.2, canon_ord (suc s.last) s.right l c.4)

pub canon_under : (lo : ℕ) (r : Right) (l : List Segment) → Canon lo r l → (x : ℕ) → x < lo → right_at l x ≡ None
canon_under lo r l c = ord_under lo l (canon_ord lo r l c)

-- at its bound the list does not go on with the right before it
pub canon_changes : (lo : ℕ) (r : Right) (l : List Segment) → (r ≡ None → ⊥) → Canon lo r l → right_at l lo ≡ r → ⊥
unfolding Canon
canon_changes lo r [] n c e = n (sym e ∙ at_none lo)
canon_changes lo r (s ∷ l) n c e = go (dec_le s.first lo)
  where
    go : Dec (s.first ≤ lo) → ⊥
    go (yes h) = c.3 (omega arith) (sym (at_in s l lo h (omega arith)) ∙ e)
    go (no h) =
        n (sym e ∙ (at_under s l lo (omega arith) ∙ canon_under (suc s.last) s.right l c.4 lo (omega arith)))

-- a lower bound, where no right comes before
pub canon_less : (a b : ℕ) (r : Right) (l : List Segment) → a ≤ b → Canon b r l → Canon a None l
unfolding Canon
canon_less a b r [] h c = tt
canon_less a b r (s ∷ l) h c = (omega arith, c.1, c.2, λ e n. c.2 n, c.4)

-- another right before the list, from which the list steps
pub canon_after : (lo : ℕ) (r q : Right) (s : Segment) (l : List Segment) → (s.first ≡ lo → s.right ≡ q → ⊥) → Canon lo r (s ∷ l) → Canon lo q (s ∷ l)
unfolding Canon
canon_after lo r q s l h c = (c.0, c.1, c.2, h, c.4)
