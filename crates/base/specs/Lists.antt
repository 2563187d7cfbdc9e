-- Lists: of a fixed number of entries, of members that are all of a kind, and in answers.
use Rattle.std.specs.Prelude.{ℕ, ◌-◌, List, [], ◌∷◌, ◌++◌, length, replicate}
use Rattle.base.specs.Answer.{Answer, accepted, refused, given}

-- a list made n long by further x
unfoldable pub padded : {A : Type 0} → ℕ → A → List A → List A
padded n x l = l ++ replicate (n - length l) x

-- what holds of every member
abbrev pub Each : {A : Type 0} → (A → Type 0) → List A → Type 0
Each P [] = Unit {0}
Each P (x ∷ xs) = P x × Each P xs

-- the length of the list in an answer
unfoldable pub length_of : {A : Type 0} → Answer (List A) → Answer ℕ
length_of a = given a λ l. accepted (length l)

-- the list in an answer; a refusal "gives its number, no other result"
abbrev pub members_in : {A : Type 0} → Answer (List A) → List A
members_in (accepted l) = l
members_in (refused n) = []
