-- Items read one after the other: a value with the offset after it (ok), or the number of the first fault met (fault).
use Rattle.std.specs.Prelude.{ℕ, zero, suc, List, [], ◌∷◌, length, eqb}
use Rattle.base.specs.Answer.{Answer, accepted, refused, pick}

pub data Parsed (A : Type 0) : Type 0 where
  ok : A → ℕ → Parsed A
  fault : ℕ → Parsed A

-- "A body is read front to back and the first fault met decides": the next item, where this one was not refused
unfoldable pub then : {A B : Type 0} → Parsed A → (A → ℕ → Parsed B) → Parsed B
then (ok a at) next = next a at
then (fault n) next = fault n

-- n items of one kind, one after the other
unfoldable pub many_at : {A : Type 0} → (List ℕ → ℕ → Parsed A) → ℕ → List ℕ → ℕ → Parsed (List A)
many_at item zero s at = ok [] at
many_at item (suc n) s at = then (item s at) λ a p. then (many_at item n s p) λ rest q. ok (a ∷ rest) q

-- "nothing may follow": what was read of the bytes s is the answer where it ends with them
unfoldable pub whole : {A : Type 0} → List ℕ → Parsed A → Answer A
whole s (ok a at) = pick (eqb at (length s)) (accepted a) (refused 2)
whole s (fault n) = refused n

-- a check of what was just read, as an item of no bytes: its number refuses, its value goes on from the same offset
unfoldable pub as_item : {A : Type 0} → Answer A → ℕ → Parsed A
as_item (accepted a) at = ok a at
as_item (refused n) at = fault n

-- only the offset after an item
unfoldable pub end_of : {A : Type 0} → Parsed A → Parsed (Unit {0})
end_of x = then x λ a at. ok tt at

-- the number of the fault; of an item with a value, the first of the table
abbrev pub fault_in : {A : Type 0} → Parsed A → ℕ
fault_in (ok a at) = 1
fault_in (fault n) = n
