-- What holds of tests that were passed, and of answers: what an accepted one went through, and what is made of one.
use Prim.Native.Nat.{ℕ}
use mathlib.Core.Path.{◌≡◌, refl, sym, ap, ◌∙◌}
use mathlib.Core.Bool.{Bool, true, false, ◌&&◌, ◌||◌, false≢true}
use native.Mathlib.Omega.{arith}
use Rattle.base.specs.Answer.{Answer, accepted, refused, given, is_accepted, or_else, pick}

pub both : (a b : Bool) → (a && b) ≡ true → (a ≡ true) × (b ≡ true)
both true b h = (refl, h)
both false b h = absurd (false≢true h)

pub neither : (a b : Bool) → (a || b) ≡ false → (a ≡ false) × (b ≡ false)
neither true b h = absurd (false≢true (sym h))
neither false b h = (refl, h)

pub the_first : (a b : Bool) → (a || b) ≡ true → b ≡ false → a ≡ true
the_first true b h e = refl
the_first false b h e = absurd (false≢true (sym e ∙ h))

-- two tests that hold together
pub same_tests : (a b : Bool) → (a ≡ true → b ≡ true) → (b ≡ true → a ≡ true) → a ≡ b
same_tests true true f g = refl
same_tests true false f g = sym (f refl)
same_tests false true f g = g refl
same_tests false false f g = refl

pub pick_true : {A : Type 0} (t : Bool) (a b : A) → t ≡ true → pick t a b ≡ a
unfolding pick
pick_true t a b e = rw e

pub pick_false : {A : Type 0} (t : Bool) (a b : A) → t ≡ false → pick t a b ≡ b
unfolding pick
pick_false t a b e = rw e

-- ---- an answer is accepted or refused, with one value or number

pub never_accepted : {A B : Type 0} (n : ℕ) (a : A) → refused n ≡ accepted a → B
never_accepted n a e = let z : ◌≡◌ {A = ℕ} 0 1 = cc in absurd (omega arith)

pub never_refused : {A B : Type 0} (a : A) (n : ℕ) → accepted a ≡ refused n → B
never_refused a n e = let z : ◌≡◌ {A = ℕ} 0 1 = cc in absurd (omega arith)

pub same_answer : {A : Type 0} {a b : A} → accepted a ≡ accepted b → a ≡ b
same_answer e = cc

pub same_refusal : {A : Type 0} (n k : ℕ) → ◌≡◌ {A = Answer A} (refused n) (refused k) → n ≡ k
same_refusal n k e = cc

-- ---- what an accepted answer went through

-- the question before it, and the one after that
pub record GivenInv {A B : Type 0} (x : Answer A) (f : A → Answer B) (b : B) : Type 0 where
  pub value : A
  pub first : x ≡ accepted value
  pub rest : f value ≡ accepted b

pub given_inv : {A B : Type 0} (x : Answer A) (f : A → Answer B) (b : B) → given x f ≡ accepted b → GivenInv x f b
unfolding given
given_inv (accepted a) f b e = record { value = a; first = refl; rest = e }
given_inv (refused n) f b e = never_accepted n b e

-- the test that it passed
pub pick_accepted : {A : Type 0} (t : Bool) (x : Answer A) (n : ℕ) (a : A) → pick t x (refused n) ≡ accepted a → (t ≡ true) × (x ≡ accepted a)
unfolding pick
pick_accepted true x n a h = (refl, h)
pick_accepted false x n a h = never_accepted n a h

-- the test that it did not meet
pub pick_not_refused : {A : Type 0} (t : Bool) (n : ℕ) (x : Answer A) (a : A) → pick t (refused n) x ≡ accepted a → (t ≡ false) × (x ≡ accepted a)
unfolding pick
pick_not_refused true n x a h = never_accepted n a h
pick_not_refused false n x a h = (refl, h)

pub accepted_value : {A : Type 0} (x : Answer A) → is_accepted x ≡ true → (a : A) × (x ≡ accepted a)
accepted_value (accepted a) h = (a, refl)
accepted_value (refused n) h = absurd (false≢true h)

-- ---- what is made of an answer

-- it is refused only where the answer is, and with its number
pub given_refused : {A B : Type 0} (x : Answer A) (f : A → B) (n : ℕ) → given x (λ a. accepted (f a)) ≡ refused n → x ≡ refused n
unfolding given
given_refused (accepted a) f n e = never_refused (f a) n e
given_refused {A} {B} (refused k) f n e = ap refused (same_refusal {A = B} k n e)

-- of a test
pub given_pick : {A B : Type 0} (t : Bool) (n : ℕ) (a : A) (f : A → Answer B) → given (pick t (refused n) (accepted a)) f ≡ pick t (refused n) (f a)
unfolding given pick
given_pick true n a f = refl
given_pick false n a f = refl

-- of the first of two, or else of the second
pub given_or_else : {A B : Type 0} (a b : Answer A) (f : A → B)
    → given (or_else a b) (λ v. accepted (f v)) ≡ or_else (given a (λ v. accepted (f v))) (given b (λ v. accepted (f v)))
unfolding given
given_or_else (accepted v) b f = refl
given_or_else (refused n) b f = refl
