-- Numbers as bytes, for every width, in both byte orders; runs of bytes that are zero or equal.
use Rattle.std.specs.Prelude.{ℕ, zero, suc, ◌+◌, ◌*◌, ◌/◌, ◌%◌, ◌<◌, List, [], ◌∷◌, ◌++◌, length, take, drop, get_or, Bool, true, false, ◌&&◌, leb, eqb}
use Rattle.base.specs.Answer.{pick}

-- each element is a byte
abbrev pub AllBytes : List ℕ → Type 0
AllBytes bs = (i : ℕ) → get_or bs i 0 < 256

-- the k bytes from an offset
abbrev pub bytes_from : ℕ → List ℕ → ℕ → List ℕ
bytes_from k s at = take k (drop at s)

-- v, and the bytes after it as its lower digits
unfoldable pub be_from : ℕ → List ℕ → ℕ
be_from v [] = v
be_from v (b ∷ bs) = be_from (v * 256 + b) bs

-- "All wire numbers are big-endian": the number of the bytes, the highest first
unfoldable pub be_value : List ℕ → ℕ
be_value bs = be_from 0 bs

-- the k bytes of v, the highest first
unfoldable pub be_bytes : ℕ → ℕ → List ℕ
be_bytes zero v = []
be_bytes (suc k) v = be_bytes k (v / 256) ++ (v % 256 ∷ [])

-- "little-endian", as in the store's slots: the number of the bytes, the lowest first
unfoldable pub le_value : List ℕ → ℕ
le_value [] = 0
le_value (b ∷ bs) = le_value bs * 256 + b

-- the k bytes of v, the lowest first
unfoldable pub le_bytes : ℕ → ℕ → List ℕ
le_bytes zero v = []
le_bytes (suc k) v = v % 256 ∷ le_bytes k (v / 256)

-- the number of the k bytes at an offset, big-endian and little-endian; 0 where the bytes run out
unfoldable pub be_at : ℕ → List ℕ → ℕ → ℕ
be_at k s at = pick (leb (at + k) (length s)) (be_value (bytes_from k s at)) 0

unfoldable pub le_at : ℕ → List ℕ → ℕ → ℕ
le_at k s at = pick (leb (at + k) (length s)) (le_value (bytes_from k s at)) 0

-- whether each byte is 0
unfoldable pub all_zero : List ℕ → Bool
all_zero [] = true
all_zero (b ∷ bs) = eqb b 0 && all_zero bs

-- whether two lists are of one length and equal in each byte
unfoldable pub same_bytes : List ℕ → List ℕ → Bool
same_bytes [] [] = true
same_bytes [] (y ∷ ys) = false
same_bytes (x ∷ xs) [] = false
same_bytes (x ∷ xs) (y ∷ ys) = eqb x y && same_bytes xs ys
