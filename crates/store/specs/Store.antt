-- The body store, which the scope paper calls the shelf: "a lent buffer of 32,768 bytes, 8 slots of 4,096".
use Rattle.std.specs.Prelude.{ℕ, ◌-◌, ◌*◌, List, [], ◌∷◌, ◌++◌, length, replicate, leb}
use Rattle.base.specs.Limits.{slot_head_size, slot_size, store_size}
use Rattle.base.specs.Answer.{pick}
use Rattle.octets.specs.Buffers.{stored}
use Rattle.octets.specs.Numbers.{bytes_from, le_at, le_bytes}

-- a layout body's bytes
abbrev pub Body : Type 0
Body = List ℕ

pub data Slot : Type 0 where
  empty : Slot
  holds : Body → Slot

-- "length (4 bytes, little-endian), kind (2 bytes, little-endian, value 4), body, zeros to the end. A slot that no
-- segment names is all zeros."
unfoldable pub slot_bytes : Slot → List ℕ
slot_bytes empty = replicate slot_size 0
slot_bytes (holds b) = le_bytes 4 (length b) ++ (le_bytes 2 4 ++ (b ++ replicate (slot_size - slot_head_size - length b) 0))

-- "a zeroed shelf"
abbrev pub zero_store : List ℕ
zero_store = replicate store_size 0

-- "Its shelf is its slots, laid out as above."
unfoldable pub store_of : List Slot → List ℕ
store_of [] = []
store_of (s ∷ l) = slot_bytes s ++ store_of l

-- a store in which slot i is laid out anew; as it was where there is no slot i, or the body is too long for a slot
unfoldable pub slot_set : List ℕ → ℕ → Slot → List ℕ
slot_set store i s = pick (leb (length (slot_bytes s)) slot_size) (stored store (i * slot_size) (slot_bytes s)) store

-- the bytes of slot i, and what they say: the length is at 0, the kind at 4, the body at 6
abbrev pub slot_at : List ℕ → ℕ → List ℕ
slot_at store i = bytes_from slot_size store (i * slot_size)

unfoldable pub length_in : List ℕ → ℕ
length_in slot = le_at 4 slot 0

unfoldable pub kind_in : List ℕ → ℕ
kind_in slot = le_at 2 slot 4

unfoldable pub body_in : List ℕ → Body
body_in slot = bytes_from (length_in slot) slot slot_head_size
