-- Laws of items read into arrays one after the other: they are then the first of the entries, and the others stay blank.
use Prim.Native.Nat.{ℕ, ◌+◌, ◌-◌, ◌≤◌, ◌<◌}
use mathlib.Core.Path.{◌≡◌, refl, sym, ap}
use mathlib.Core.List.{List}
use native.Mathlib.Numerals.{add-one}
use native.Mathlib.Omega.{arith}
use lib.ListN.{length, get_or, replicate, set}
use lib.Seq.{sets}
use Rattle.base.specs.Lists.{padded}
use Rattle.base.proofs.ListLaws.{filled_is_padded, length_padded, padded_at}
use Rattle.xdr.specs.Parsed.{Parsed, ok, fault, then, many_at}
use Rattle.xdr.specs.Items.{count_at}
use Rattle.xdr.specs.CountedLists.{Listed, list_at}
use Rattle.xdr.proofs.Accepted.{count_read, never, then_inv, same_offset, same_value}
use Rattle.xdr.proofs.ManyLaws.{first_then, many_all, many_length, none_then, refused_then}

-- n items, of which those still to be read come into the entries t from the index i on
unfoldable pub filled : {A : Type 0} → ℕ → List A → ℕ → Parsed (List A) → Parsed (Listed A)
filled n t i x = then x λ l q. ok (record { count = n; entries = sets t i l }) q

all_filled : {A : Type 0} (most : ℕ) (blank : A) (n : ℕ) (x : Parsed (List A)) → ((l : List A) (q : ℕ) → x ≡ ok l q → length l ≤ most)
    → then x (λ l q. ok (record { count = n; entries = padded most blank l }) q) ≡ filled n (replicate most blank) 0 x
unfolding filled then
all_filled most blank n (ok l q) h = rw (filled_is_padded most blank l (h l q refl))
all_filled most blank n (fault k) h = refl

module _ {A : Type 0} (item : List ℕ → ℕ → Parsed A) where
  -- a list whose count is read
  pub list_begun : (least most : ℕ) (blank : A) (s : List ℕ) (at n p : ℕ) → count_at least most s at ≡ ok n p
      → list_at least most item blank s at ≡ filled n (replicate most blank) 0 (many_at item n s p)
  unfolding list_at then
  list_begun least most blank s at n p h =
      let k : n ≤ most = (count_read least most s at n p h).high in
      rw h (all_filled most blank n (many_at item n s p) (λ l q e. let j : length l ≡ n = many_length item n s p l q e in omega arith))

  pub list_refused : (least most : ℕ) (blank : A) (s : List ℕ) (at k : ℕ) → count_at least most s at ≡ fault k → list_at least most item blank s at ≡ fault k
  unfolding list_at then
  list_refused least most blank s at k h = rw h

  pub listed_none : (n : ℕ) (t : List A) (i m : ℕ) (s : List ℕ) (at : ℕ) → m ≡ 0
      → filled n t i (many_at item m s at) ≡ ok (record { count = n; entries = t }) at
  unfolding filled
  listed_none n t i m s at h = none_then item m s at _ h

  pub listed_refused : (n : ℕ) (t : List A) (i m : ℕ) (s : List ℕ) (at k : ℕ) → 0 < m → item s at ≡ fault k
      → filled n t i (many_at item m s at) ≡ fault k
  unfolding filled
  listed_refused n t i m s at k h e = refused_then item m s at _ k h e

  pub listed_next : (n : ℕ) (t : List A) (i m : ℕ) (s : List ℕ) (at : ℕ) (a : A) (p : ℕ) → i < m → item s at ≡ ok a p
      → filled n t i (many_at item (m - i) s at) ≡ filled n (set t i a) (i + 1) (many_at item (m - (i + 1)) s p)
  unfolding filled
  listed_next n t i m s at a p h e =
      let f : m - (i + 1) ≡ m - i - 1 = omega arith in
      rw (f, add-one i) (first_then item (m - i) s at _ a p (omega arith) e)

-- ---- a list that was read

pub record IsList {A : Type 0} (least most : ℕ) (P : A → Type 0) (blank : A) (n : ℕ) (entries : List A) : Type 0 where
  pub low : least ≤ n
  pub high : n ≤ most
  pub long : length entries ≡ most
  pub each : (i : ℕ) → i < n → P (get_or entries i blank)

pub list_read : {A : Type 0} (least most : ℕ) (item : List ℕ → ℕ → Parsed A) (blank : A) (s : List ℕ) (P : A → Type 0)
    → ((at : ℕ) (a : A) (p : ℕ) → item s at ≡ ok a p → P a)
    → (at : ℕ) (v : Listed A) (p : ℕ) → list_at least most item blank s at ≡ ok v p → IsList least most P blank v.count v.entries
unfolding list_at
list_read least most item blank s P h at v p e =
    let r = then_inv _ _ v p e in
    let t = then_inv _ _ v p r.rest in
    let c = count_read least most s at r.item r.next r.first in
    let n : length t.item ≡ r.item = many_length item r.item s r.next t.item t.next t.first in
    let w : record { count = r.item; entries = padded most blank t.item } ≡ v = same_value t.rest in
    rw (← w)
    (record {
      low = c.low;
      high = c.high;
      long = length_padded most blank t.item (omega (arith, c.high));
      each = λ i j. rw (padded_at most blank t.item i) (many_all item s P h r.item r.next t.item t.next t.first i blank j);
    })

-- ---- the members of a list, without their array

abbrev listed : {A : Type 0} → ℕ → A → List A → ℕ → Parsed (Listed A)
listed most blank l q = ok (record { count = length l; entries = padded most blank l }) q

pub list_by_members : {A : Type 0} (least most : ℕ) (item : List ℕ → ℕ → Parsed A) (blank : A) (s : List ℕ) (at : ℕ)
    → list_at least most item blank s at ≡ then (then (count_at least most s at) λ n p. many_at item n s p) (listed most blank)
unfolding list_at then
list_by_members {A = A} least most item blank s at = go (count_at least most s at) where
  each : (n : ℕ) (x : Parsed (List A)) → ((l : List A) (q : ℕ) → x ≡ ok l q → length l ≡ n)
      → then x (λ l q. ok (record { count = n; entries = padded most blank l }) q) ≡ then x (listed most blank)
  each n (ok l q) h = rw (h l q refl)
  each n (fault k) h = refl

  go : (x : Parsed ℕ)
      → then x (λ n p. then (many_at item n s p) λ l q. ok (record { count = n; entries = padded most blank l }) q)
      ≡ then (then x λ n p. many_at item n s p) (listed most blank)
  go (ok n p) = each n (many_at item n s p) (λ l q e. many_length item n s p l q e)
  go (fault k) = refl

pub record Members {A : Type 0} (most : ℕ) (blank : A) (x : Parsed (List A)) (n : ℕ) (entries : List A) (p : ℕ) : Type 0 where
  pub members : List A
  pub were : x ≡ ok members p
  pub count : n ≡ length members
  pub all : entries ≡ padded most blank members

pub members_read : {A : Type 0} (most : ℕ) (blank : A) (x : Parsed (List A)) (n : ℕ) (entries : List A) (p : ℕ)
    → then x (listed most blank) ≡ ok (record { count = n; entries = entries }) p → Members most blank x n entries p
unfolding then
members_read {A = A} most blank (ok l q) n entries p e =
    let v : ◌≡◌ {A = Listed A} (record { count = length l; entries = padded most blank l }) (record { count = n; entries = entries }) = same_value e in
    record {
      members = l;
      were = ap (ok l) (same_offset e);
      count = sym (ap (λ (x : Listed A). x.count) v);
      all = sym (ap (λ (x : Listed A). x.entries) v);
    }
members_read most blank (fault k) n entries p e = never k _ p e

pub members_refused : {A : Type 0} (most : ℕ) (blank : A) (x : Parsed (List A)) (n : ℕ) → then x (listed most blank) ≡ fault n → x ≡ fault n
unfolding then
members_refused most blank (ok l q) n e = let z : ◌≡◌ {A = ℕ} 0 1 = cc in absurd (omega arith)
members_refused most blank (fault k) n e = let h : k ≡ n = cc in rw h
