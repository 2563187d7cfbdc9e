-- Sets of bits in a number.
use Rattle.std.specs.Prelude.{ℕ, ◌/◌, ◌%◌, Bool, eqb}

-- whether the bit of this value is in a set
abbrev pub bit : ℕ → ℕ → Bool
bit b set = eqb (set / b % 2) 1
