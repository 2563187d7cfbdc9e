-- Laws of stripes and pieces: which stripe a byte is in, and how long a piece can be.
use Prim.Native.Nat.{ℕ, ◌+◌, ◌-◌, ◌*◌, ◌/◌, ◌%◌, ◌≤◌, ◌<◌, min}
use mathlib.Core.Path.{◌≡◌, refl, ap, ◌∙◌}
use mathlib.Core.Bool.{Bool, true, false}
use mathlib.Core.Logic.{◌⊎◌, inl, inr}
use native.Mathlib.Decide.{dec_le}
use native.Mathlib.Nat.{add-mul, div-add-mod', div-eq_of_lt-le, mod-lt, one-mul}
use native.Mathlib.Omega.{arith}
use borrow.Author.Tests.{leb-false, le-leb, lt-leb}
use lib.Dec.{leb}
use Rattle.base.specs.Answer.{pick}
use Rattle.route.specs.Stripes.{piece_length, stripe_of, unit_rest}

-- ---- the unit of a byte

pub rest_some : (unit offset : ℕ) → 0 < unit → 1 ≤ unit_rest unit offset
unfolding unit_rest
rest_some unit offset h = omega (arith, mod-lt offset h)

-- bytes within the rest of a unit are in that unit
pub same_unit : (unit offset n : ℕ) → 0 < unit → n < unit_rest unit offset → (offset + n) / unit ≡ offset / unit
unfolding unit_rest
same_unit unit offset n h k =
    let e : offset / unit * unit + offset % unit ≡ offset = div-add-mod' offset unit in
    let r : offset % unit < unit = mod-lt offset h in
    let d : (offset / unit + 1) * unit ≡ offset / unit * unit + unit = add-mul (offset / unit) 1 unit ∙ ap (λ (y : ℕ). offset / unit * unit + y) (one-mul unit) in
    div-eq_of_lt-le unit (omega arith) (omega arith)

-- ---- the stripe and the piece

-- the shortest of three, from each less one
less_one : (a b c : ℕ) → 1 ≤ a → 1 ≤ c → min (min (a - 1) b) (c - 1) + 1 ≡ min (min a (b + 1)) c
less_one a b c h k = omega arith

module _ (unit servers : ℕ) where
  pub one_stripe : (offset : ℕ) → servers ≤ 1 → 0 ≡ stripe_of unit servers offset
  unfolding stripe_of pick
  one_stripe offset h = rw (le-leb servers 1 h)

  pub stripe_by_unit : (offset index : ℕ) → 1 < servers → index ≡ offset / unit → index % servers ≡ stripe_of unit servers offset
  unfolding stripe_of pick
  stripe_by_unit offset index h e = rw (lt-leb servers 1 h, e)

  module _ (last offset len : ℕ) where
    pub piece_in_one : (held : ℕ) → 1 ≤ len → servers ≤ 1 → held ≡ min (len - 1) (last - offset) → held + 1 ≡ piece_length unit servers last offset len
    unfolding piece_length pick
    piece_in_one held p h e = rw (le-leb servers 1 h) (omega arith)

    pub piece_in_many : (held rest piece : ℕ) → 1 ≤ len → (1 < servers → 0 < unit) → 1 < servers → held ≡ min (len - 1) (last - offset)
        → rest ≡ unit_rest unit offset → piece ≡ min held (rest - 1) → piece + 1 ≡ piece_length unit servers last offset len
    unfolding piece_length pick
    piece_in_many held rest piece p u h e f g =
        let r : 1 ≤ unit_rest unit offset = rest_some unit offset (u h) in
        rw (lt-leb servers 1 h, ← f, g, e) (less_one len (last - offset) rest p (omega arith))

    -- ---- bounds of a piece

    pub piece_in_len : piece_length unit servers last offset len ≤ len
    unfolding piece_length pick
    piece_in_len = go (leb servers 1) (unit_rest unit offset)
      where
        go : (b : Bool) (rest : ℕ) → pick b (min len (last - offset + 1)) (min (min len (last - offset + 1)) rest) ≤ len
        go true rest = omega arith
        go false rest = omega arith

    pub piece_in_rest : piece_length unit servers last offset len ≤ last - offset + 1
    unfolding piece_length pick
    piece_in_rest = go (leb servers 1) (unit_rest unit offset)
      where
        go : (b : Bool) (rest : ℕ) → pick b (min len (last - offset + 1)) (min (min len (last - offset + 1)) rest) ≤ last - offset + 1
        go true rest = omega arith
        go false rest = omega arith

    pub piece_some : 1 ≤ len → (1 < servers → 0 < unit) → 1 ≤ piece_length unit servers last offset len
    unfolding piece_length pick
    piece_some p u = go (leb servers 1) refl
      where
        go : (b : Bool) → leb servers 1 ≡ b → 1 ≤ pick b (min len (last - offset + 1)) (min (min len (last - offset + 1)) (unit_rest unit offset))
        go true h = omega arith
        go false h = let r = rest_some unit offset (u (leb-false servers 1 h)) in omega arith

    pub piece_in_unit_rest : 1 < servers → piece_length unit servers last offset len ≤ unit_rest unit offset
    unfolding piece_length pick
    piece_in_unit_rest h = rw (lt-leb servers 1 h) (omega arith)

    -- and it is no shorter than the shortest of the three
    pub piece_ends : (piece_length unit servers last offset len ≡ len)
        ⊎ ((piece_length unit servers last offset len ≡ last - offset + 1)
        ⊎ ((1 < servers) × (piece_length unit servers last offset len ≡ unit_rest unit offset)))
    unfolding piece_length pick
    piece_ends = go (leb servers 1) refl (unit_rest unit offset) (dec_le len (last - offset + 1)) (dec_le (min len (last - offset + 1)) (unit_rest unit offset))
      where
        go : (b : Bool) → leb servers 1 ≡ b → (rest : ℕ) → Dec (len ≤ last - offset + 1) → Dec (min len (last - offset + 1) ≤ rest)
            → (pick b (min len (last - offset + 1)) (min (min len (last - offset + 1)) rest) ≡ len)
            ⊎ ((pick b (min len (last - offset + 1)) (min (min len (last - offset + 1)) rest) ≡ last - offset + 1)
            ⊎ ((1 < servers) × (pick b (min len (last - offset + 1)) (min (min len (last - offset + 1)) rest) ≡ rest)))
        go true h rest (yes d) e = inl (omega arith)
        go true h rest (no d) e = inr (inl (omega arith))
        go false h rest (yes d) (yes e) = inl (omega arith)
        go false h rest (no d) (yes e) = inr (inl (omega arith))
        go false h rest d (no e) = inr (inr (leb-false servers 1 h, omega arith))
