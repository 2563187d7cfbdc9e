-- Readers that refuse only with the numbers of a list, and what readers are made of: this is kept by each way to put them together.
use Prim.Native.Nat.{ℕ, zero, suc}
use mathlib.Core.Path.{◌≡◌, refl}
use mathlib.Core.Bool.{Bool, true, false, ◌&&◌, ◌||◌, false≢true}
use mathlib.Core.List.{List, [], ◌∷◌}
use native.Mathlib.Omega.{arith}
use borrow.Author.Tests.{eqb-true}
use lib.Dec.{eqb}
use lib.ListN.{length}
use Rattle.base.specs.Answer.{Answer, accepted, refused, given, pick}
use Rattle.base.proofs.AnswerLaws.{both, never_refused, same_refusal}
use Rattle.octets.specs.Numbers.{all_zero}
use Rattle.xdr.specs.Parsed.{Parsed, ok, fault, then, many_at, as_item, whole}
use Rattle.xdr.specs.Items.{bool_at, bytes_at, count_at, num_at, opaque_at}
use Rattle.claims.specs.Statements.{is_one_of}

-- ---- lists of numbers

-- whether each number of a list is in another
abbrev pub all_in : List ℕ → List ℕ → Bool
all_in [] ms = true
all_in (n ∷ ns) ms = is_one_of n ms && all_in ns ms

pub in_wider : (ns ms : List ℕ) → all_in ns ms ≡ true → (n : ℕ) → is_one_of n ns ≡ true → is_one_of n ms ≡ true
in_wider [] ms i n h = absurd (false≢true h)
in_wider (k ∷ ns) ms i n h = go (eqb n k) refl h (in_wider ns ms (both (is_one_of k ms) (all_in ns ms) i).1 n)
  where
    go : (b : Bool) → eqb n k ≡ b → (b || is_one_of n ns) ≡ true → (is_one_of n ns ≡ true → is_one_of n ms ≡ true) → is_one_of n ms ≡ true
    go true e p rest = rw (eqb-true n k e) (both (is_one_of k ms) (all_in ns ms) i).0
    go false e p rest = rest p

-- ---- what refuses only with the numbers of a list

-- an item
pub record FaultsIn {A : Type 0} (ns : List ℕ) (x : Parsed A) : Type 0 where
  pub fault : (n : ℕ) → x ≡ fault n → is_one_of n ns ≡ true

-- an answer
pub record RefusalsIn {A : Type 0} (ns : List ℕ) (x : Answer A) : Type 0 where
  pub refusal : (n : ℕ) → x ≡ refused n → is_one_of n ns ≡ true

no_fault : {A B : Type 0} (a : A) (p n : ℕ) → ok a p ≡ fault n → B
no_fault a p n e = let z : ◌≡◌ {A = ℕ} 0 1 = cc in absurd (omega arith)

same_fault : {A : Type 0} (n k : ℕ) → ◌≡◌ {A = Parsed A} (fault n) (fault k) → n ≡ k
same_fault n k e = cc

module _ {A : Type 0} {ns : List ℕ} where
  pub read : {a : A} {p : ℕ} → FaultsIn ns (ok a p)
  read {a = a} {p = p} = record { fault = λ n e. no_fault a p n e }

  stops : (n : ℕ) → is_one_of n ns ≡ true → FaultsIn {A = A} ns (fault n)
  stops n h = record { fault = λ k e. rw (← same_fault n k e) h }

  pub accepts : {a : A} → RefusalsIn ns (accepted a)
  accepts {a = a} = record { refusal = λ n e. never_refused a n e }

  pub refuses : (n : ℕ) → is_one_of n ns ≡ true → RefusalsIn {A = A} ns (refused n)
  refuses n h = record { refusal = λ k e. rw (← same_refusal n k e) h }

  pub wider : {ms : List ℕ} {x : Parsed A} → FaultsIn ns x → all_in ns ms ≡ true → FaultsIn ms x
  wider {ms = ms} h i = record { fault = λ n e. in_wider ns ms i n (h.fault n e) }

  pub wider_answer : {ms : List ℕ} {x : Answer A} → RefusalsIn ns x → all_in ns ms ≡ true → RefusalsIn ms x
  wider_answer {ms = ms} h i = record { refusal = λ n e. in_wider ns ms i n (h.refusal n e) }

-- ---- one after the other

then_faults : {A B : Type 0} (ns : List ℕ) (x : Parsed A) (f : A → ℕ → Parsed B) → FaultsIn ns x → ((a : A) (p : ℕ) → FaultsIn ns (f a p))
    → FaultsIn ns (then x f)
unfolding then
then_faults ns (ok a p) f h k = k a p
then_faults ns (fault n) f h k = stops n (h.fault n refl)

-- an item with a list of its own, and what follows it
pub run : {A B : Type 0} {ns ms : List ℕ} {x : Parsed A} {f : A → ℕ → Parsed B} → FaultsIn ns x → all_in ns ms ≡ true
    → ((a : A) (p : ℕ) → FaultsIn ms (f a p)) → FaultsIn ms (then x f)
run {ms = ms} {x = x} {f = f} h i k = then_faults ms x f (wider h i) k

pub many_faults : {A : Type 0} {ns : List ℕ} {item : List ℕ → ℕ → Parsed A} → ((s : List ℕ) (at : ℕ) → FaultsIn ns (item s at))
    → (n : ℕ) (s : List ℕ) (at : ℕ) → FaultsIn ns (many_at item n s at)
unfolding many_at
many_faults h zero s at = read
many_faults h (suc n) s at = then_faults _ _ _ (h s at) λ a p. then_faults _ _ _ (many_faults h n s p) λ rest q. read

given_refusals : {A B : Type 0} (ns : List ℕ) (x : Answer A) (f : A → Answer B) → RefusalsIn ns x → ((a : A) → RefusalsIn ns (f a))
    → RefusalsIn ns (given x f)
unfolding given
given_refusals ns (accepted a) f h k = k a
given_refusals ns (refused n) f h k = refuses n (h.refusal n refl)

-- an answer with a list of its own, and what follows it
pub asked : {A B : Type 0} {ns ms : List ℕ} {x : Answer A} {f : A → Answer B} → RefusalsIn ns x → all_in ns ms ≡ true
    → ((a : A) → RefusalsIn ms (f a)) → RefusalsIn ms (given x f)
asked {ms = ms} {x = x} {f = f} h i k = given_refusals ms x f (wider_answer h i) k

-- ---- by a test; the number is what comes where it fails

module _ {A : Type 0} {ns : List ℕ} where
  pub tested : {x : Parsed A} (b : Bool) (n : ℕ) → FaultsIn ns x → is_one_of n ns ≡ true → FaultsIn ns (pick b x (fault n))
  unfolding pick
  tested true n h i = h
  tested false n h i = stops n i

  -- a test that holds
  passed : {x : Parsed A} (y : Parsed A) → FaultsIn ns x → FaultsIn ns (pick true x y)
  unfolding pick
  passed y h = h

  pub tested_answer : {x : Answer A} (b : Bool) (n : ℕ) → RefusalsIn ns x → is_one_of n ns ≡ true → RefusalsIn ns (pick b x (refused n))
  unfolding pick
  tested_answer true n h i = h
  tested_answer false n h i = refuses n i

  pub chosen : {x y : Answer A} (b : Bool) → RefusalsIn ns x → RefusalsIn ns y → RefusalsIn ns (pick b x y)
  unfolding pick
  chosen true h k = h
  chosen false h k = k

  -- ---- answers among items

  pub inside_faults : (x : Answer A) (at : ℕ) → RefusalsIn ns x → FaultsIn ns (as_item x at)
  unfolding as_item
  inside_faults (accepted a) at h = read
  inside_faults (refused n) at h = stops n (h.refusal n refl)

  pub whole_refusals : (s : List ℕ) (x : Parsed A) → FaultsIn ns x → is_one_of 2 ns ≡ true → RefusalsIn ns (whole s x)
  unfolding whole
  whole_refusals s (ok a at) h i = tested_answer (eqb at (length s)) 2 accepts i
  whole_refusals s (fault n) h i = refuses n (h.fault n refl)

-- ---- the items of XDR

pub num_faults : (k : ℕ) (s : List ℕ) (at : ℕ) → FaultsIn (1 ∷ []) (num_at k s at)
unfolding num_at
num_faults k s at = tested _ 1 read refl

pub bool_faults : (s : List ℕ) (at : ℕ) → FaultsIn (1 ∷ 7 ∷ []) (bool_at s at)
unfolding bool_at
bool_faults s at = run (num_faults 4 s at) refl λ n p. tested _ 7 read refl

pub count_faults : (lo hi : ℕ) (s : List ℕ) (at : ℕ) → FaultsIn (1 ∷ 8 ∷ []) (count_at lo hi s at)
unfolding count_at
count_faults lo hi s at = run (num_faults 4 s at) refl λ n p. tested _ 8 read refl

pub bytes_faults : (n : ℕ) (s : List ℕ) (at : ℕ) → FaultsIn (1 ∷ 6 ∷ []) (bytes_at n s at)
unfolding bytes_at
bytes_faults n s at = tested _ 1 (tested _ 6 read refl) refl

-- 16 bytes have no padding
pub sixteen_faults : (s : List ℕ) (at : ℕ) → FaultsIn (1 ∷ []) (bytes_at 16 s at)
unfolding bytes_at all_zero
sixteen_faults s at = tested _ 1 (passed _ read) refl

pub opaque_faults : (lo hi : ℕ) (s : List ℕ) (at : ℕ) → FaultsIn (1 ∷ 6 ∷ 8 ∷ []) (opaque_at lo hi s at)
unfolding opaque_at
opaque_faults lo hi s at = run (count_faults lo hi s at) refl λ n p. wider (bytes_faults n s p) refl
