-- A walk over the two iomodes by number: what comes out of a test for those that are passed, for one, and for both.
use Prim.Native.Nat.{ℕ, ◌+◌, ◌≤◌, ◌<◌}
use mathlib.Core.Path.{◌≡◌, ap, ◌∙◌}
use mathlib.Core.Bool.{Bool, true, false, ◌&&◌, ◌||◌, and-false, or-true}
use native.Mathlib.Decide.{dec_lt}
use native.Mathlib.Omega.{arith}
use lib.Dec.{eqb}
use Rattle.base.specs.Answer.{pick}
use Rattle.segments.specs.Segments.{Mode, READ, RW, mode_of}

-- the test comes out as v for each iomode below number i
abbrev pub PassedTo : (Mode → Bool) → Bool → ℕ → Type 0
PassedTo p v i = (j : ℕ) → j < i → p (mode_of j) ≡ v

pub none_passed : (p : Mode → Bool) (v : Bool) → PassedTo p v 0
none_passed p v j h = absurd (omega (arith, h))

module _ (p : Mode → Bool) (i : ℕ) where
  pub one_more_passed : (v : Bool) → p (mode_of i) ≡ v → PassedTo p v i → PassedTo p v (i + 1)
  one_more_passed v e h j k = go (dec_lt j i)
    where
      go : Dec (j < i) → p (mode_of j) ≡ v
      go (yes d) = h j d
      go (no d) = let s : j ≡ i = omega (arith, k, d) in ap (λ (n : ℕ). p (mode_of n)) s ∙ e

  both_passed : (v : Bool) → PassedTo p v i → 2 ≤ i → (p READ ≡ v) × (p RW ≡ v)
  unfolding pick
  both_passed v h k = (h 0 (omega (arith, k)), h 1 (omega (arith, k)))

  -- either of the two

  pub one_is : p (mode_of i) ≡ true → (p READ || p RW) ≡ true
  unfolding pick
  one_is e = go (eqb i 0) e
    where
      go : (t : Bool) → p (pick t READ RW) ≡ true → (p READ || p RW) ≡ true
      go true e = rw e
      go false e = rw e (or-true (p READ))

  pub neither_is : PassedTo p false i → 2 ≤ i → (p READ || p RW) ≡ false
  neither_is h k = let b = both_passed false h k in rw (b.0, b.1)

  -- both of the two

  pub one_is_not : p (mode_of i) ≡ false → (p READ && p RW) ≡ false
  unfolding pick
  one_is_not e = go (eqb i 0) e
    where
      go : (t : Bool) → p (pick t READ RW) ≡ false → (p READ && p RW) ≡ false
      go true e = rw e
      go false e = rw e (and-false (p READ))

  pub both_are : PassedTo p true i → 2 ≤ i → (p READ && p RW) ≡ true
  both_are h k = let b = both_passed true h k in rw (b.0, b.1)
