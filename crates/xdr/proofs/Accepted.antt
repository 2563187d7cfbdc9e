-- What holds of items that were read: the items before them, the tests that they passed, their limits and where they end.
use Prim.Native.Nat.{ℕ, zero, suc, ◌+◌, ◌≤◌}
use mathlib.Core.Path.{◌≡◌, refl, sym, ap, ◌∙◌}
use mathlib.Core.Bool.{Bool, true, false}
use mathlib.Core.List.{List}
use native.Mathlib.Omega.{arith}
use borrow.Author.Tests.{eqb-true, leb-true}
use lib.Dec.{eqb, leb}
use lib.ListN.{length}
use Rattle.base.specs.Answer.{Answer, accepted, refused, pick}
use Rattle.base.specs.Ranges.{range_last}
use Rattle.base.proofs.AnswerLaws.{both, never_accepted, pick_accepted, same_answer}
use Rattle.octets.specs.Numbers.{all_zero, bytes_from, be_value}
use Rattle.xdr.specs.Parsed.{Parsed, ok, fault, then, whole, as_item}
use Rattle.xdr.specs.Items.{bool_at, bytes_at, count_at, num_at, opaque_at, padding, range_at}
use Rattle.xdr.specs.declared.Part.{Part}
use Rattle.xdr.specs.declared.range.Range.{Range}

pub never : {A B : Type 0} (n : ℕ) (a : A) (p : ℕ) → fault n ≡ ok a p → B
never n a p e = let z : ◌≡◌ {A = ℕ} 0 1 = cc in absurd (omega arith)

pub same_value : {A : Type 0} {a b : A} {p q : ℕ} → ok a p ≡ ok b q → a ≡ b
same_value e = cc

pub same_offset : {A : Type 0} {a b : A} {p q : ℕ} → ok a p ≡ ok b q → p ≡ q
same_offset e = cc

-- what holds of a value and its offset, of the same ones by other names
pub moved : {A : Type 0} (P : A → ℕ → Type 0) (a b : A) (p q : ℕ) → ok a p ≡ ok b q → P a p → P b q
moved P a b p q e x = rw (← same_value e, ← same_offset e) x

-- the item that an accepted run began with, and the run after it
pub record ThenInv {A B : Type 0} (x : Parsed A) (f : A → ℕ → Parsed B) (b : B) (q : ℕ) : Type 0 where
  pub item : A
  pub next : ℕ
  pub first : x ≡ ok item next
  pub rest : f item next ≡ ok b q

pub then_inv : {A B : Type 0} (x : Parsed A) (f : A → ℕ → Parsed B) (b : B) (q : ℕ) → then x f ≡ ok b q → ThenInv x f b q
unfolding then
then_inv (ok a p) f b q h = record { item = a; next = p; first = refl; rest = h }
then_inv (fault n) f b q h = never n b q h

-- the test that an accepted item passed
pub record PickInv {A : Type 0} (t : Bool) (x : Parsed A) (a : A) (p : ℕ) : Type 0 where
  pub test : t ≡ true
  pub chosen : x ≡ ok a p

pub pick_inv : {A : Type 0} (t : Bool) (x : Parsed A) (n : ℕ) (a : A) (p : ℕ) → pick t x (fault n) ≡ ok a p → PickInv t x a p
unfolding pick
pick_inv true x n a p e = record { test = refl; chosen = e }
pick_inv false x n a p e = never n a p e

-- what was read of an accepted body ends with it
pub whole_read : {A : Type 0} (s : List ℕ) (x : Parsed A) (a : A) → whole s x ≡ accepted a → x ≡ ok a (length s)
unfolding whole
whole_read s (ok b p) a h =
    let t = pick_accepted (eqb p (length s)) (accepted b) 2 a h in
    let e : p ≡ length s = eqb-true p (length s) t.0 in
    rw (e, same_answer t.1)
whole_read s (fault n) a h = never_accepted n a h

-- a check that was passed
pub item_accepted : {A : Type 0} (x : Answer A) (at : ℕ) (a : A) (p : ℕ) → as_item x at ≡ ok a p → (x ≡ accepted a) × (at ≡ p)
unfolding as_item
item_accepted (accepted b) at a p e = (ap accepted (same_value e), same_offset e)
item_accepted (refused n) at a p e = never n a p e

pub record Number (k : ℕ) (s : List ℕ) (at n p : ℕ) : Type 0 where
  pub value : n ≡ be_value (bytes_from k s at)
  pub end : p ≡ at + k
  pub within : p ≤ length s

pub number_read : (k : ℕ) (s : List ℕ) (at n p : ℕ) → num_at k s at ≡ ok n p → Number k s at n p
unfolding num_at
number_read k s at n p h =
    let r = pick_inv _ _ 1 n p h in
    let e : at + k ≤ length s = leb-true _ _ r.test in
    let f : at + k ≡ p = same_offset r.chosen in
    record { value = sym (same_value r.chosen); end = sym f; within = omega arith }

pub record Count (least most : ℕ) (s : List ℕ) (at n p : ℕ) : Type 0 where
  pub low : least ≤ n
  pub high : n ≤ most
  pub read : num_at 4 s at ≡ ok n p
  pub number : Number 4 s at n p

pub count_read : (least most : ℕ) (s : List ℕ) (at n p : ℕ) → count_at least most s at ≡ ok n p → Count least most s at n p
unfolding count_at
count_read least most s at n p h =
    let r = then_inv _ _ n p h in
    let t = pick_inv _ _ 8 n p r.rest in
    let b = both _ _ t.test in
    let e : r.item ≡ n = same_value t.chosen in
    let l : least ≤ r.item = leb-true _ _ b.0 in
    let u : r.item ≤ most = leb-true _ _ b.1 in
    let m = r.first ∙ t.chosen in
    record { low = omega arith; high = omega arith; read = m; number = number_read 4 s at n p m }

pub record Bytes (n : ℕ) (s : List ℕ) (at : ℕ) (v : Part) (p : ℕ) : Type 0 where
  pub value : v ≡ record { start = at; len = n }
  pub end : p ≡ at + n + padding n
  pub within : p ≤ length s
  pub zeros : all_zero (bytes_from (padding n) s (at + n)) ≡ true

pub bytes_read : (n : ℕ) (s : List ℕ) (at : ℕ) (v : Part) (p : ℕ) → bytes_at n s at ≡ ok v p → Bytes n s at v p
unfolding bytes_at
bytes_read n s at v p h =
    let r = pick_inv _ _ 1 v p h in
    let t = pick_inv _ _ 6 v p r.chosen in
    let e : at + n + padding n ≤ length s = leb-true _ _ r.test in
    let f : at + n + padding n ≡ p = same_offset t.chosen in
    record { value = sym (same_value t.chosen); end = sym f; within = rw f at e; zeros = t.test }

pub record Opaque (least most : ℕ) (s : List ℕ) (at : ℕ) (v : Part) (p : ℕ) : Type 0 where
  pub count : Count least most s at v.len (at + 4)
  pub bytes : Bytes v.len s (at + 4) v p

pub opaque_read : (least most : ℕ) (s : List ℕ) (at : ℕ) (v : Part) (p : ℕ) → opaque_at least most s at ≡ ok v p → Opaque least most s at v p
unfolding opaque_at
opaque_read least most s at v p h =
    let r = then_inv _ _ v p h in
    let n = count_read least most s at r.item r.next r.first in
    let b = bytes_read r.item s r.next v p r.rest in
    let e : r.item ≡ v.len = ap (λ (x : Part). x.len) (sym b.value) in
    let f : r.next ≡ at + 4 = n.number.end in
    record { count = rw (e, f) at n; bytes = rw (e, f) at b }

-- the bytes of an item are inside the body
pub opaque_within : (least most : ℕ) (s : List ℕ) (at : ℕ) (v : Part) (p : ℕ) → opaque_at least most s at ≡ ok v p → v.start + v.len ≤ length s
opaque_within least most s at v p h =
    let b = (opaque_read least most s at v p h).bytes in
    let e : v.start ≡ at + 4 = ap (λ (x : Part). x.start) b.value in
    omega (arith, b.end, b.within)

-- a boolean is the number 0 or 1
pub bit_is : (n : ℕ) → n ≤ 1 → pick (eqb n 1) 1 0 ≡ n
unfolding pick
bit_is zero h = refl
bit_is (suc zero) h = refl
bit_is (suc (suc n)) h = absurd (omega (arith, h))

bool_number : (s : List ℕ) (at n p : ℕ) → leb n 1 ≡ true → Number 4 s at n p → Number 4 s at (pick (eqb n 1) 1 0) p
bool_number s at n p t r = rw (bit_is n (leb-true n 1 t)) r

pub bool_read : (s : List ℕ) (at : ℕ) (b : Bool) (p : ℕ) → bool_at s at ≡ ok b p → Number 4 s at (pick b 1 0) p
unfolding bool_at
bool_read s at b p h =
    let r = then_inv _ _ b p h in
    let t = pick_inv (leb r.item 1) _ 7 b p r.rest in
    moved (λ c q. Number 4 s at (pick c 1 0) q) _ b _ p t.chosen (bool_number s at r.item r.next t.test (number_read 4 s at r.item r.next r.first))

-- the two numbers of a range, and its last byte
pub record Ranged (s : List ℕ) (at : ℕ) (v : Range) (p : ℕ) : Type 0 where
  pub offset : num_at 8 s at ≡ ok v.offset (at + 8)
  pub len : num_at 8 s (at + 8) ≡ ok v.length p
  pub last : range_last v.offset v.length ≡ accepted v.last

range_parts : (s : List ℕ) (at o p1 l p2 x p3 : ℕ) → num_at 8 s at ≡ ok o p1 → num_at 8 s p1 ≡ ok l p2 → as_item (range_last o l) p2 ≡ ok x p3
    → Ranged s at (record { offset = o; length = l; last = x }) p3
range_parts s at o p1 l p2 x p3 f g h =
    let e : p1 ≡ at + 8 = (number_read 8 s at o p1 f).end in
    let c = item_accepted (range_last o l) p2 x p3 h in
    record { offset = rw e at f; len = rw (e, c.1) at g; last = c.0 }

pub range_read : (s : List ℕ) (at : ℕ) (v : Range) (p : ℕ) → range_at s at ≡ ok v p → Ranged s at v p
unfolding range_at
range_read s at v p h =
    let o = then_inv _ _ v p h in
    let l = then_inv _ _ v p o.rest in
    let x = then_inv _ _ v p l.rest in
    moved (Ranged s at) _ v _ p x.rest (range_parts s at o.item o.next l.item l.next x.item x.next o.first l.first x.first)
