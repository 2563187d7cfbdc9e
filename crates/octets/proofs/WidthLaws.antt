-- Laws of the widths that the code has: std's numbers of 2, 4 and 8 bytes are those of specs/Numbers, as they are read and as they are written.
use Prim.Native.Nat.{ℕ, ◌+◌, ◌≤◌}
use mathlib.Core.Path.{◌≡◌, refl}
use mathlib.Core.List.{List}
use native.Mathlib.Nat.{div-div-eq-div-mul}
use native.Mathlib.Omega.{arith}
use lib.ListN.{length, take}
use Rattle.std.specs.Int.{w16, w32, w64, from_be_bytes, from_le_bytes, to_be_bytes, to_le_bytes}
use Rattle.octets.specs.Numbers.{be_at, be_bytes, be_from, be_value, bytes_from, le_at, le_bytes, le_value}
use Rattle.octets.proofs.NumberLaws.{be_there, four_bytes, le_there, two_bytes, two_parts}

module _ (s : List ℕ) (at : ℕ) where
  pub be4_there : at + 4 ≤ length s → be_at 4 s at ≡ from_be_bytes w32 (bytes_from 4 s at)
  unfolding be_value be_from
  be4_there h = rw (be_there 4 s at h, four_bytes s at h) (omega arith)

  pub le2_there : at + 2 ≤ length s → le_at 2 s at ≡ from_le_bytes w16 (bytes_from 2 s at)
  unfolding le_value
  le2_there h = rw (le_there 2 s at h, two_bytes s at h) (omega arith)

  pub le4_there : at + 4 ≤ length s → le_at 4 s at ≡ from_le_bytes w32 (bytes_from 4 s at)
  unfolding le_value
  le4_there h = rw (le_there 4 s at h, four_bytes s at h) (omega arith)

  module _ (h : at + 8 ≤ length s) where
    front : at + 4 ≤ length s
    front = omega arith

    back : at + 4 + 4 ≤ length s
    back = omega arith

    pub be8_there : be_at 8 s at ≡ from_be_bytes w64 (bytes_from 8 s at)
    unfolding be_value be_from
    be8_there = rw (be_there 8 s at h, two_parts 4 4 s at, four_bytes s at front, four_bytes s (at + 4) back) (omega arith)

    pub le8_there : le_at 8 s at ≡ from_le_bytes w64 (bytes_from 8 s at)
    unfolding le_value
    le8_there = rw (le_there 8 s at h, two_parts 4 4 s at, four_bytes s at front, four_bytes s (at + 4) back) (omega arith)

-- ---- a number written

module _ (v : ℕ) where
  pub be4_written : be_bytes 4 v ≡ to_be_bytes w32 v
  unfolding be_bytes
  be4_written = simp div-div-eq-div-mul

  pub be8_written : be_bytes 8 v ≡ to_be_bytes w64 v
  unfolding be_bytes
  be8_written = simp div-div-eq-div-mul

  pub le2_written : le_bytes 2 v ≡ take 2 (to_le_bytes w32 v)
  unfolding le_bytes
  le2_written = refl

  pub le4_written : le_bytes 4 v ≡ to_le_bytes w32 v
  unfolding le_bytes
  le4_written = simp div-div-eq-div-mul
