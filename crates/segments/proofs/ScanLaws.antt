-- Laws of the walk over every byte: what a test finds, and that the list worked out is canonical, shows each byte's right and nothing else.
use Prim.Native.Nat.{ℕ, zero, suc, ◌+◌, ◌≤◌, ◌<◌}
use mathlib.Core.Path.{◌≡◌, refl, sym, ap, ◌∙◌}
use mathlib.Core.Bool.{Bool, true, false, ◌&&◌, ◌||◌, false≢true, or-true}
use mathlib.Core.List.{List, [], ◌∷◌}
use native.Mathlib.Omega.{arith}
use native.Mathlib.Decide.{dec_le, dec_lt}
use borrow.Author.Tests.{eqb-true, eqb-false}
use lib.Dec.{eqb}
use Rattle.base.specs.Answer.{pick}
use Rattle.segments.specs.declared.Right.{Right}
use Rattle.segments.specs.declared.Right.TheVariants.{None, Granted, Recalled}
use Rattle.segments.specs.declared.Segment.{Segment}
use Rattle.segments.specs.Segments.{any_below, in_front, right_at, same_right, scan, segments_of, with_byte}
use Rattle.segments.proofs.Canon.{Canon, Below, at_in, at_past, below_more, below_past, canon_after, canon_less, canon_under, granted_some, recalled_some, same_right_false, same_right_true}

-- ---- a test over the bytes

pub any_none : (p : ℕ → Bool) (n : ℕ) → ((x : ℕ) → x < n → p x ≡ false) → any_below p n ≡ false
unfolding any_below
any_none p zero h = refl
any_none p (suc n) h = simp (h n (omega arith), any_none p n (λ x k. h x (omega arith)))

pub any_some : (p : ℕ → Bool) (n x : ℕ) → x < n → p x ≡ true → any_below p n ≡ true
unfolding any_below
any_some p zero x h e = absurd (omega arith)
any_some p (suc n) x h e = go (p n) refl (dec_lt x n) (λ l. any_some p n x l e)
  where
    go : (t : Bool) → p n ≡ t → Dec (x < n) → (x < n → any_below p n ≡ true) → (t || any_below p n) ≡ true
    go true k d rest = refl
    go false k (yes l) rest = rest l
    go false k (no l) rest =
        let f : x ≡ n = omega arith in
        absurd (false≢true (sym k ∙ (ap p (sym f) ∙ e)))

pub any_more : (p q : ℕ → Bool) (n : ℕ) → ((x : ℕ) → x < n → p x ≡ true → q x ≡ true) → any_below p n ≡ true → any_below q n ≡ true
unfolding any_below
any_more p q zero h e = e
any_more p q (suc n) h e = go (p n) refl e (any_more p q n (λ x l. h x (omega arith)))
  where
    go : (t : Bool) → p n ≡ t → (t || any_below p n) ≡ true → (any_below p n ≡ true → any_below q n ≡ true) → (q n || any_below q n) ≡ true
    go true k f rest = rw (h n (omega arith) k)
    go false k f rest = rw (rest f) (or-true (q n))

pub any_found : (p : ℕ → Bool) (n : ℕ) → any_below p n ≡ true → (x : ℕ) × (x < n) × (p x ≡ true)
unfolding any_below
any_found p zero e = absurd (false≢true e)
any_found p (suc n) e = go (p n) refl e (any_found p n)
  where
    go : (t : Bool) → p n ≡ t → (t || any_below p n) ≡ true → (any_below p n ≡ true → (x : ℕ) × (x < n) × (p x ≡ true))
        → (x : ℕ) × (x < suc n) × (p x ≡ true)
    go true k f rest = (n, omega arith, k)
    go false k f rest = let h = rest f in (h.0, omega arith, h.2)

pub any_ext : (p q : ℕ → Bool) (n : ℕ) → ((x : ℕ) → x < n → p x ≡ q x) → any_below p n ≡ any_below q n
unfolding any_below
any_ext p q zero h = refl
any_ext p q (suc n) h = rw (h n (omega arith), any_ext p q n (λ x k. h x (omega arith)))

-- ---- one byte in front of a list

byte_canon : (x : ℕ) (r : Right) (l : List Segment) → (r ≡ None → ⊥) → Canon (suc x) None l → Canon x None (with_byte x r l)
unfolding with_byte Canon pick
byte_canon x r [] n c = (omega arith, omega arith, n, λ e. n, tt)
byte_canon x r (s ∷ l) n c = go (eqb (suc x) s.first) (same_right r s.right) refl refl
  where
    go : (t u : Bool) → eqb (suc x) s.first ≡ t → same_right r s.right ≡ u
        → Canon x None (pick (t && u) (record { first = x; last = s.last; right = r } ∷ l) (record { first = x; last = x; right = r } ∷ s ∷ l))
    go true true h k =
        let e : r ≡ s.right = same_right_true r s.right k in
        (omega arith, omega arith, n, λ z. n, rw e c.4)
    go true false h k =
        (omega arith, omega arith, n, λ z. n, canon_after (suc x) None r s l (λ z e. same_right_false r s.right k (sym e)) c)
    go false u h k =
        (omega arith, omega arith, n, λ z. n, canon_after (suc x) None r s l (λ z e. eqb-false (suc x) s.first h (sym z)) c)

byte_at : (x : ℕ) (r : Right) (l : List Segment) → Canon (suc x) None l → right_at (with_byte x r l) x ≡ r
unfolding with_byte Canon pick
byte_at x r [] c = at_in (record { first = x; last = x; right = r }) [] x (omega arith) (omega arith)
byte_at x r (s ∷ l) c = go (eqb (suc x) s.first) (same_right r s.right)
  where
    go : (t u : Bool)
        → right_at (pick (t && u) (record { first = x; last = s.last; right = r } ∷ l) (record { first = x; last = x; right = r } ∷ s ∷ l)) x ≡ r
    go true true = at_in (record { first = x; last = s.last; right = r }) l x (omega arith) (omega arith)
    go true false = at_in (record { first = x; last = x; right = r }) (s ∷ l) x (omega arith) (omega arith)
    go false u = at_in (record { first = x; last = x; right = r }) (s ∷ l) x (omega arith) (omega arith)

byte_past : (x : ℕ) (r : Right) (l : List Segment) (y : ℕ) → x < y → right_at (with_byte x r l) y ≡ right_at l y
unfolding with_byte pick
byte_past x r [] y h = at_past (record { first = x; last = x; right = r }) [] y h
byte_past x r (s ∷ l) y h = go (eqb (suc x) s.first) (same_right r s.right) refl refl (dec_le y s.last)
  where
    go : (t u : Bool) → eqb (suc x) s.first ≡ t → same_right r s.right ≡ u → Dec (y ≤ s.last)
        → right_at (pick (t && u) (record { first = x; last = s.last; right = r } ∷ l) (record { first = x; last = x; right = r } ∷ s ∷ l)) y
        ≡ right_at (s ∷ l) y
    go true true e k (yes d) =
        let f : suc x ≡ s.first = eqb-true (suc x) s.first e in
        at_in (record { first = x; last = s.last; right = r }) l y (omega arith) d
        ∙ (same_right_true r s.right k ∙ sym (at_in s l y (omega arith) d))
    go true true e k (no d) =
        at_past (record { first = x; last = s.last; right = r }) l y (omega arith) ∙ sym (at_past s l y (omega arith))
    go true false e k d = at_past (record { first = x; last = x; right = r }) (s ∷ l) y h
    go false u e k d = at_past (record { first = x; last = x; right = r }) (s ∷ l) y h

byte_below : (n x : ℕ) (r : Right) (l : List Segment) → x < n → Below n l → Below n (with_byte x r l)
unfolding with_byte Below pick
byte_below n x r [] h b = (h, tt)
byte_below n x r (s ∷ l) h b = go (eqb (suc x) s.first && same_right r s.right)
  where
    go : (t : Bool)
        → Below n (pick t (record { first = x; last = s.last; right = r } ∷ l) (record { first = x; last = x; right = r } ∷ s ∷ l))
    go true = b
    go false = (h, b)

front_canon : (x : ℕ) (r : Right) (l : List Segment) → Canon (suc x) None l → Canon x None (in_front x r l)
unfolding in_front
front_canon x None l c = canon_less x (suc x) None l (omega arith) c
front_canon x (Granted i) l c = byte_canon x (Granted i) l (granted_some i) c
front_canon x (Recalled i) l c = byte_canon x (Recalled i) l (recalled_some i) c

front_at : (x : ℕ) (r : Right) (l : List Segment) → Canon (suc x) None l → right_at (in_front x r l) x ≡ r
unfolding in_front
front_at x None l c = canon_under (suc x) None l c x (omega arith)
front_at x (Granted i) l c = byte_at x (Granted i) l c
front_at x (Recalled i) l c = byte_at x (Recalled i) l c

front_past : (x : ℕ) (r : Right) (l : List Segment) (y : ℕ) → x < y → right_at (in_front x r l) y ≡ right_at l y
unfolding in_front
front_past x None l y h = refl
front_past x (Granted i) l y h = byte_past x (Granted i) l y h
front_past x (Recalled i) l y h = byte_past x (Recalled i) l y h

front_below : (n x : ℕ) (r : Right) (l : List Segment) → x < n → Below n l → Below n (in_front x r l)
unfolding in_front
front_below n x None l h b = b
front_below n x (Granted i) l h b = byte_below n x (Granted i) l h b
front_below n x (Recalled i) l h b = byte_below n x (Recalled i) l h b

-- ---- the walk

pub scan_canon : (f : ℕ → Right) (n x : ℕ) → Canon x None (scan f n x)
unfolding scan Canon
scan_canon f zero x = tt
scan_canon f (suc n) x = front_canon x (f x) (scan f n (suc x)) (scan_canon f n (suc x))

pub scan_below : (f : ℕ → Right) (n x : ℕ) → Below (x + n) (scan f n x)
unfolding scan Below
scan_below f zero x = tt
scan_below f (suc n) x =
    front_below (x + suc n) x (f x) (scan f n (suc x)) (omega arith)
    (below_more (suc x + n) (x + suc n) (scan f n (suc x)) (omega arith) (scan_below f n (suc x)))

pub scan_shows : (f : ℕ → Right) (n x y : ℕ) → x ≤ y → y < x + n → right_at (scan f n x) y ≡ f y
unfolding scan
scan_shows f zero x y h k = absurd (omega arith)
scan_shows f (suc n) x y h k = go (dec_lt x y) (λ d. scan_shows f n (suc x) y d (omega arith))
  where
    go : Dec (x < y) → (x < y → right_at (scan f n (suc x)) y ≡ f y) → right_at (in_front x (f x) (scan f n (suc x))) y ≡ f y
    go (yes d) rest = front_past x (f x) (scan f n (suc x)) y d ∙ rest d
    go (no d) rest =
        let e : y ≡ x = omega arith in
        rw e (front_at x (f x) (scan f n (suc x)) (scan_canon f n (suc x)))

pub scan_ext : (f g : ℕ → Right) (n x : ℕ) → ((y : ℕ) → x ≤ y → y < x + n → f y ≡ g y) → scan f n x ≡ scan g n x
unfolding scan
scan_ext f g zero x h = refl
scan_ext f g (suc n) x h =
    rw (h x (omega arith) (omega arith), scan_ext f g n (suc x) (λ y a b. h y (omega arith) (omega arith)))

-- ---- the list of the bytes 0 to N

pub segments_canon : (N : ℕ) (f : ℕ → Right) → Canon 0 None (segments_of N f)
unfolding segments_of
segments_canon N f = scan_canon f (suc N) 0

pub segments_below : (N : ℕ) (f : ℕ → Right) → Below (suc N) (segments_of N f)
unfolding segments_of
segments_below N f = below_more (0 + suc N) (suc N) (scan f (suc N) 0) (omega arith) (scan_below f (suc N) 0)

pub segments_show : (N : ℕ) (f : ℕ → Right) (x : ℕ) → x ≤ N → right_at (segments_of N f) x ≡ f x
unfolding segments_of
segments_show N f x h = scan_shows f (suc N) 0 x (omega arith) (omega arith)

pub segments_past : (N : ℕ) (f : ℕ → Right) (x : ℕ) → N < x → right_at (segments_of N f) x ≡ None
segments_past N f x h = below_past (suc N) (segments_of N f) (segments_below N f) x h

pub segments_ext : (N : ℕ) (f g : ℕ → Right) → ((x : ℕ) → x ≤ N → f x ≡ g x) → segments_of N f ≡ segments_of N g
unfolding segments_of
segments_ext N f g h = scan_ext f g (suc N) 0 (λ y a b. h y (omega arith))
