-- Which mirrors are named.
use Prim.Native.Nat.{ℕ, ◌-◌, ◌^◌, ◌≤◌, ◌<◌}
use mathlib.Core.Path.{◌≡◌, refl, sym}
use mathlib.Core.Bool.{Bool, true, false, not, ◌&&◌}
use mathlib.Core.List.{List}
use native.Mathlib.Omega.{arith}
use lib.Pow.{pow-lt, pow_pos}
use Rattle.base.specs.Answer.{pick}
use Rattle.base.specs.Best.{best}
use Rattle.base.proofs.BestLaws.{best_is_one}
use Rattle.layout.specs.Layouts.{Layout}
use Rattle.route.specs.Mirrors.{all_of, best_mirror, efficiency_of, only}
use Rattle.route.specs.Routes.{mirrors_named, one_mirror}

pub all_named : (write : Bool) (body : List ℕ) (l : Layout) (stripe : ℕ) → (write && not (one_mirror l.summary.flags)) ≡ true
    → mirrors_named write body l stripe ≡ all_of l.summary.mirrors
unfolding mirrors_named pick
all_named true body l stripe h = rw (one (one_mirror l.summary.flags) h)
  where
    one : (b : Bool) → not b ≡ true → b ≡ false
    one true e = sym e
    one false e = refl
all_named false body l stripe h = let z : ◌≡◌ {A = ℕ} 0 1 = cc in absurd (omega arith)

pub one_named : (write : Bool) (body : List ℕ) (l : Layout) (stripe : ℕ) → (write && not (one_mirror l.summary.flags)) ≡ false
    → mirrors_named write body l stripe ≡ only (best_mirror body l.starts l.summary.mirrors stripe)
unfolding mirrors_named pick
one_named true body l stripe h = rw (one (one_mirror l.summary.flags) h)
  where
    one : (b : Bool) → not b ≡ false → b ≡ true
    one true e = refl
    one false e = sym e
one_named false body l stripe h = refl

-- what is named is some of the layout's mirrors
pub some_named : (write : Bool) (body : List ℕ) (l : Layout) (stripe : ℕ) → 1 ≤ l.summary.mirrors
    → (1 ≤ mirrors_named write body l stripe) × (mirrors_named write body l stripe < 2 ^ l.summary.mirrors)
unfolding mirrors_named best_mirror pick
some_named write body l stripe h = go write (one_mirror l.summary.flags)
  where
    m : ℕ
    m = l.summary.mirrors

    picked : ℕ
    picked = best (efficiency_of body l.starts stripe) (m - 1)

    one : (1 ≤ 2 ^ picked) × (2 ^ picked < 2 ^ m)
    one =
        let b : picked ≤ m - 1 = best_is_one (efficiency_of body l.starts stripe) (m - 1) in
        let k : picked < m = omega arith in
        (pow_pos picked, pow-lt k)

    all : (1 ≤ 2 ^ m - 1) × (2 ^ m - 1 < 2 ^ m)
    all = let k : 1 < 2 ^ m = pow-lt {i = 0} h in (omega arith, omega arith)

    go : (w b : Bool) → (1 ≤ pick w (pick b (2 ^ picked) (2 ^ m - 1)) (2 ^ picked)) × (pick w (pick b (2 ^ picked) (2 ^ m - 1)) (2 ^ picked) < 2 ^ m)
    go true true = one
    go true false = all
    go false b = one
