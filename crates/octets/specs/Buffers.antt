-- Bytes stored into a buffer.
use Rattle.std.specs.Prelude.{ℕ, ◌+◌, List, length, leb}
use Rattle.std.proofs.lemmas.List.Edits.{sets}
use Rattle.base.specs.Answer.{pick}

-- the buffer l with the bytes bs from an offset on; as it was where they do not fit
unfoldable pub stored : List ℕ → ℕ → List ℕ → List ℕ
stored l at bs = pick (leb (at + length bs) (length l)) (sets l at bs) l
