-- What an edit does, byte by byte.
use Prim.Native.Nat.{ℕ}
use Rattle.base.specs.Answer.{pick}
use Rattle.segments.specs.declared.Right.{Right}
use Rattle.segments.specs.Segments.{within}
use Rattle.table.specs.declared.change.Change.{Change}
use Rattle.table.specs.Edits.{changed_right}

unfoldable pub changed_fun : Change → ℕ → ℕ → (ℕ → Right) → ℕ → Right
changed_fun c first last f x = pick (within first last x) (changed_right c (f x)) (f x)
