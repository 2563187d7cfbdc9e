-- Laws of the first index with the greatest value: none is above it, and each before it is below; and a loop that looks for it.
use Prim.Native.Nat.{ℕ, zero, suc, ◌+◌, ◌-◌, ◌≤◌, ◌<◌}
use mathlib.Core.Path.{◌≡◌, refl, sym, ap, ◌∙◌}
use native.Mathlib.Omega.{arith}
use native.Mathlib.Decide.{dec_le, dec_lt}
use borrow.Author.Tests.{le-ltb, lt-ltb}
use Rattle.base.specs.Answer.{pick}
use Rattle.base.specs.Best.{best}

module _ (value : ℕ → ℕ) where
  -- the next index is picked where its value is above that of the picked one, and only there
  pub next_is_best : (n : ℕ) → value (best value n) < value (suc n) → best value (suc n) ≡ suc n
  unfolding best pick
  next_is_best n h = rw (lt-ltb (value (best value n)) (value (suc n)) h)

  pub best_stays : (n : ℕ) → value (suc n) ≤ value (best value n) → best value (suc n) ≡ best value n
  unfolding best pick
  best_stays n h = rw (le-ltb (value (best value n)) (value (suc n)) h)

  pub first_is_best : best value 0 ≡ 0
  unfolding best
  first_is_best = refl

  pub best_is_one : (n : ℕ) → best value n ≤ n
  best_is_one zero = let e = first_is_best in omega arith
  best_is_one (suc n) = go (dec_lt (value (best value n)) (value (suc n))) (best_is_one n)
    where
      go : Dec (value (best value n) < value (suc n)) → best value n ≤ n → best value (suc n) ≤ suc n
      go (yes h) k = let e = next_is_best n h in omega arith
      go (no h) k = let e = best_stays n (omega arith) in omega arith

  pub best_is_highest : (n m : ℕ) → m ≤ n → value m ≤ value (best value n)
  best_is_highest zero m s =
      let e : m ≡ 0 = omega arith in
      rw (e, first_is_best) (omega arith)
  best_is_highest (suc n) m s = go (dec_lt (value (best value n)) (value (suc n))) (dec_le m n) (best_is_highest n m)
    where
      go : Dec (value (best value n) < value (suc n)) → Dec (m ≤ n) → (m ≤ n → value m ≤ value (best value n))
          → value m ≤ value (best value (suc n))
      go (yes h) (yes d) rest = let k = rest d in rw (next_is_best n h) (omega arith)
      go (yes h) (no d) rest = let e : m ≡ suc n = omega arith in rw (next_is_best n h, e) (omega arith)
      go (no h) (yes d) rest = let k = rest d in rw (best_stays n (omega arith)) k
      go (no h) (no d) rest = let e : m ≡ suc n = omega arith in rw (best_stays n (omega arith), e) (omega arith)

  pub best_is_lowest : (n m : ℕ) → m < best value n → value m < value (best value n)
  best_is_lowest zero m s = let e = first_is_best in absurd (omega arith)
  best_is_lowest (suc n) m s = go (dec_lt (value (best value n)) (value (suc n))) (best_is_lowest n m)
    where
      go : Dec (value (best value n) < value (suc n)) → (m < best value n → value m < value (best value n))
          → value m < value (best value (suc n))
      go (yes h) rest =
          let e : best value (suc n) ≡ suc n = next_is_best n h in
          let k = best_is_highest n m (omega arith) in
          rw e (omega arith)
      go (no h) rest =
          let e : best value (suc n) ≡ best value n = best_stays n (omega arith) in
          rw e (rest (omega arith))

-- ---- the loop's step

-- b is picked among the indices below m, and h is its value
pub record Picked (value : ℕ → ℕ) (m b h : ℕ) : Type 0 where
  pub some : 1 ≤ m
  pub picked : b ≡ best value (m - 1)
  pub below : b < m
  pub highest : h ≡ value b

module _ (value : ℕ → ℕ) where
  pub picked_first : (h : ℕ) → h ≡ value 0 → Picked value 1 0 h
  picked_first h e = record { some = omega arith; picked = sym (first_is_best value); below = omega arith; highest = e }

  module _ (m b h e : ℕ) (p : Picked value m b h) (r : e ≡ value m) where
    pub picked_next : h < e → Picked value (m + 1) m e
    picked_next t =
        let s : 1 ≤ m = p.some in
        let k : suc (m - 1) ≡ m = omega arith in
        let f : m + 1 - 1 ≡ suc (m - 1) = omega arith in
        let a : value b ≡ value (best value (m - 1)) = ap value p.picked in
        let d : value (suc (m - 1)) ≡ value m = ap value k in
        let q : h ≡ value b = p.highest in
        record {
          some = omega arith;
          picked = rw f (sym k ∙ sym (next_is_best value (m - 1) (omega arith)));
          below = omega arith;
          highest = r;
        }

    pub picked_still : e ≤ h → Picked value (m + 1) b h
    picked_still t =
        let s : 1 ≤ m = p.some in
        let k : suc (m - 1) ≡ m = omega arith in
        let f : m + 1 - 1 ≡ suc (m - 1) = omega arith in
        let a : value b ≡ value (best value (m - 1)) = ap value p.picked in
        let d : value (suc (m - 1)) ≡ value m = ap value k in
        let q : h ≡ value b = p.highest in
        let l : b < m = p.below in
        record {
          some = omega arith;
          picked = rw f (p.picked ∙ sym (best_stays value (m - 1) (omega arith)));
          below = omega arith;
          highest = q;
        }

  pub picked_last : (m n b h : ℕ) → Picked value m b h → m ≡ n → (b ≡ best value (n - 1)) × (b < n)
  picked_last m n b h p e = let l : b < m = p.below in (p.picked ∙ ap (λ (k : ℕ). best value (k - 1)) e, omega arith)
