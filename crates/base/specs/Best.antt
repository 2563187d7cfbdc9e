-- The first of the indices with the greatest value.
use Rattle.std.specs.Prelude.{ℕ, zero, suc, ltb}
use Rattle.base.specs.Answer.{pick}

-- "the highest .., lowest number on a tie": among 0 and the n indices after it
unfoldable pub best : (ℕ → ℕ) → ℕ → ℕ
best value zero = 0
best value (suc n) = pick (ltb (value (best value n)) (value (suc n))) (suc n) (best value n)
