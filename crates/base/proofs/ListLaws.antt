-- What holds of lists, whatever is in them.
use Prim.Native.Nat.{ℕ, zero, suc, ◌+◌, ◌-◌, ◌≤◌, ◌<◌, min}
use mathlib.Core.Path.{◌≡◌, refl, sym, ap, ◌∙◌}
use mathlib.Core.List.{List, [], ◌∷◌, ◌++◌, map, append_assoc, append-nil, map-append}
use native.Mathlib.Decide.{dec_le}
use native.Mathlib.Nat.{add-zero}
use native.Mathlib.Numerals.{add-one}
use native.Mathlib.Omega.{arith}
use lib.ListN.{length, take, drop, get_or, replicate, set, length-append, length-map, length-replicate, length-set, replicate-append-replicate}
use lib.Seq.{append_snoc, drop-append-add, set-append_left, set_at, set_comm, sets, sets-eq, take_all, take-append_seam, take-nil, take-suc, take-suc-set, take-take}
use Rattle.base.specs.Lists.{Each, padded}

-- the length of an array of structs, from what is known of a parameter
pub mapped_long {ℓ} : {A : Type 0} {B : Type ℓ} (f : A → B) (l : List A) (n : ℕ) → length (map f l) ≡ n → length l ≡ n
mapped_long f l n e = sym (length-map l f) ∙ e

-- a count above the length counts as the length
pub take_capped : {A : Type 0} (l : List A) (k n m : ℕ) → length l ≡ k → m ≡ min n k → take m l ≡ take n l
take_capped l k n m h e = go (dec_le n k)
  where
    go : Dec (n ≤ k) → take m l ≡ take n l
    go (yes j) = let f : m ≡ n = omega arith in rw f
    go (no j) = take_all m l (omega arith) ∙ sym (take_all n l (omega arith))

-- a run of stores in two parts
pub sets_append : {A : Type 0} (l : List A) (at : ℕ) (xs ys : List A) → sets l at (xs ++ ys) ≡ sets (sets l at xs) (at + length xs) ys
sets_append l at [] ys = rw (add-zero at)
sets_append l at (x ∷ xs) ys = let e : at + suc (length xs) ≡ suc at + length xs = omega arith in rw e (sets_append (set l at x) (suc at) xs ys)

-- a store after a run may be made before it
pub sets_set : {A : Type 0} (l : List A) (at : ℕ) (xs : List A) (j : ℕ) (b : A) → at + length xs ≤ j → sets (set l j b) at xs ≡ set (sets l at xs) j b
sets_set l at [] j b h = refl
sets_set l at (x ∷ xs) j b h =
    let n : suc at + length xs ≤ j = omega arith in
    ap (λ (m : List _). sets m (suc at) xs) (set_comm l j at b x (λ e. omega arith)) ∙ sets_set (set l at x) (suc at) xs j b n

-- a run of stores after another may be made before it
pub sets_sets : {A : Type 0} (l : List A) (at : ℕ) (xs : List A) (p : ℕ) (ys : List A) → at + length xs ≤ p → sets (sets l p ys) at xs ≡ sets (sets l at xs) p ys
sets_sets l at xs p [] h = refl
sets_sets l at xs p (y ∷ ys) h =
    sets_sets (set l p y) at xs (suc p) ys (omega arith) ∙ ap (λ (m : List _). sets m (suc p) ys) (sets_set l at xs p y h)

-- ---- a list made of another, element by element

module _ {A B : Type 0} (f : A → B) (l : List A) (made : List B) (i : ℕ) where
  pub map_next : (d : A) → i < length l → i < length made → take i made ≡ map f (take i l)
      → take (i + 1) (set made i (f (get_or l i d))) ≡ map f (take (i + 1) l)
  map_next d h k e = rw (add-one i, take-suc-set made i (f (get_or l i d)) k, take-suc l i d h, map-append f (take i l) (get_or l i d ∷ []), e)

  pub map_all : length l ≤ i → length made ≤ i → take i made ≡ map f (take i l) → made ≡ map f l
  map_all h k e = sym (take_all i made k) ∙ (e ∙ ap (map f) (take_all i l h))

-- ---- what every member has

pub each_at : {A : Type 0} (P : A → Type 0) (l : List A) (i : ℕ) (d : A) → Each P l → i < length l → P (get_or l i d)
each_at P [] i d h k = absurd (omega arith)
each_at P (a ∷ l) zero d h k = h.0
each_at P (a ∷ l) (suc i) d h k = each_at P l i d h.1 (omega arith)

pub each_map : {A B : Type 0} (f : A → B) (P : B → Type 0) (l : List A) → Each (λ a. P (f a)) l → Each P (map f l)
each_map f P [] h = tt
each_map f P (a ∷ l) h = (h.0, each_map f P l h.1)

pub each_taken : {A : Type 0} (P : A → Type 0) (n : ℕ) (l : List A) → Each P l → Each P (take n l)
each_taken P zero l g = tt
each_taken P (suc n) [] g = tt
each_taken P (suc n) (a ∷ l) g = (g.0, each_taken P n l g.1)

pub each_behind : {A : Type 0} (P : A → Type 0) (n : ℕ) (l : List A) → Each P l → Each P (drop n l)
each_behind P zero l g = g
each_behind P (suc n) [] g = tt
each_behind P (suc n) (a ∷ l) g = each_behind P n l g.1

-- ---- lists that begin alike

pub distinct_less : {A : Type 0} (m n : ℕ) (xs ys : List A) → m ≤ n → take n xs ≡ take n ys → take m xs ≡ take m ys
distinct_less m n xs ys h e = sym (take-take m n xs h) ∙ ap (take m) e ∙ take-take m n ys h

drop_take : {A : Type 0} (n m : ℕ) (xs : List A) → drop n (take (n + m) xs) ≡ take m (drop n xs)
drop_take zero m xs = let e : 0 + m ≡ m = omega arith in rw e
drop_take (suc n) m [] = let e : suc n + m ≡ suc (n + m) = omega arith in rw e (sym (take-nil m))
drop_take (suc n) m (x ∷ xs) = let e : suc n + m ≡ suc (n + m) = omega arith in rw e (drop_take n m xs)

pub distinct_behind : {A : Type 0} (n m : ℕ) (xs ys : List A) → take (n + m) xs ≡ take (n + m) ys → take m (drop n xs) ≡ take m (drop n ys)
distinct_behind n m xs ys e = sym (drop_take n m xs) ∙ ap (drop n) e ∙ drop_take n m ys

-- ---- a list, and one value behind it

module _ {A : Type 0} where
  pub drop_replicate : (n r : ℕ) (d : A) → drop n (replicate r d) ≡ replicate (r - n) d
  drop_replicate zero r d = let e : r - 0 ≡ r = omega arith in rw e
  drop_replicate (suc n) zero d = let e : 0 - suc n ≡ 0 = omega arith in rw e
  drop_replicate (suc n) (suc r) d = let e : suc r - suc n ≡ r - n = omega arith in rw e (drop_replicate n r d)

  pub default_behind : (l : List A) (r i : ℕ) (d : A) → get_or (l ++ replicate r d) i d ≡ get_or l i d
  default_behind [] zero i d = refl
  default_behind [] (suc r) zero d = refl
  default_behind [] (suc r) (suc i) d = default_behind [] r i d
  default_behind (x ∷ l) r zero d = refl
  default_behind (x ∷ l) r (suc i) d = default_behind l r i d

  -- the first entry after the list set
  pub set_behind : (l : List A) (r i : ℕ) (d a : A) → length l ≡ i → 0 < r → set (l ++ replicate r d) i a ≡ l ++ (a ∷ []) ++ replicate (r - 1) d
  set_behind l zero i d a h k = absurd (omega arith)
  set_behind l (suc r) i d a h k =
      let e : suc r - 1 ≡ r = omega arith in
      rw (e, append_snoc l a (replicate r d)) (set_at l d (replicate r d) a i h)

  -- a run stored from there on
  pub sets_behind : (l vs : List A) (r : ℕ) (d : A) → length vs ≤ r → sets (l ++ replicate r d) (length l) vs ≡ l ++ padded r d vs
  unfolding padded
  sets_behind l vs r d h =
      let k : length l + length vs ≤ length (l ++ replicate r d) = simp (length-append, length-replicate) (omega arith) in
      sets-eq vs (l ++ replicate r d) (length l) k
      ∙ rw (
        take-append_seam l (replicate r d),
        drop-append-add l (replicate r d) (length vs),
        drop_replicate (length vs) r d,
        append_assoc l vs (replicate (r - length vs) d),
      )

-- ---- a list in n places

module _ {A : Type 0} (n : ℕ) (d : A) where
  pub length_padded : (l : List A) → length l ≤ n → length (padded n d l) ≡ n
  unfolding padded
  length_padded l h = simp (length-append, length-replicate) (omega arith)

  pub padded_whole : (l : List A) → length l ≡ n → padded n d l ≡ l
  unfolding padded
  padded_whole l h = let e : n - length l ≡ 0 = omega arith in rw e (append-nil l)

  pub padded_at : (l : List A) (i : ℕ) → get_or (padded n d l) i d ≡ get_or l i d
  unfolding padded
  padded_at l i = default_behind l (n - length l) i d

  pub padded_set : (l : List A) (i : ℕ) (a : A) → i < length l → set (padded n d l) i a ≡ padded n d (set l i a)
  unfolding padded
  padded_set l i a h = rw (set-append_left l (replicate (n - length l) d) i a h, length-set l i a)

  pub padded_next : (l : List A) (i : ℕ) (a : A) → length l ≡ i → i < n → set (padded n d l) i a ≡ padded n d (l ++ (a ∷ []))
  unfolding padded
  padded_next l i a h k =
      let e : n - length (l ++ (a ∷ [])) ≡ n - length l - 1 = simp length-append (omega arith) in
      rw e (set_behind l (n - length l) i d a h (omega arith))

  pub filled_is_padded : (l : List A) → length l ≤ n → sets (replicate n d) 0 l ≡ padded n d l
  filled_is_padded l h = sets_behind [] l n d h

  -- more entries: the n first, and the others
  pub padded_first : (l : List A) (r : ℕ) → length l ≤ n → n ≤ r → padded r d l ≡ padded n d l ++ replicate (r - n) d
  unfolding padded
  padded_first l r h k =
      let e : r - length l ≡ n - length l + (r - n) = omega arith in
      rw (e, ← replicate-append-replicate (n - length l) (r - n) d, append_assoc l (replicate (n - length l) d) (replicate (r - n) d))
