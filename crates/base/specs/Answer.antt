-- The answer to a whole question: a value, or the number of the first fault met. "A refusal gives its number, no
-- other result".
use Rattle.std.specs.Prelude.{ℕ, Bool, true, false}

pub data Answer (A : Type 0) : Type 0 where
  accepted : A → Answer A
  refused : ℕ → Answer A

-- whether an answer is no refusal
abbrev pub is_accepted : {A : Type 0} → Answer A → Bool
is_accepted (accepted a) = true
is_accepted (refused n) = false

-- the next question, where this one was not refused
unfoldable pub given : {A B : Type 0} → Answer A → (A → Answer B) → Answer B
given (accepted a) next = next a
given (refused n) next = refused n

-- the first, where it is not refused; else the second
abbrev pub or_else : {A : Type 0} → Answer A → Answer A → Answer A
or_else (accepted a) next = accepted a
or_else (refused n) next = next

-- one of two, by a test
unfoldable pub pick : {A : Type 0} → Bool → A → A → A
pick true a b = a
pick false a b = b

-- the number in a refusal; of an accepted answer, the first of the table
abbrev pub refusal_in : {A : Type 0} → Answer A → ℕ
refusal_in (accepted a) = 1
refusal_in (refused n) = n
