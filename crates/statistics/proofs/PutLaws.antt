-- Laws of records that are stored: how stores one after the other join, and the room that lengths within their limits take.
use Prim.Native.Nat.{ℕ, ◌+◌, ◌≤◌}
use mathlib.Core.Path.{◌≡◌, refl, sym, ap, ◌∙◌}
use mathlib.Core.Bool.{true}
use mathlib.Core.List.{List, ◌++◌, append_assoc}
use native.Mathlib.Omega.{arith}
use lib.ListN.{length, length-append}
use lib.Seq.{sets}
use Rattle.base.specs.Limits.{longest_address, longest_filehandle, longest_netid}
use Rattle.base.proofs.AnswerLaws.{both}
use Rattle.base.proofs.ListLaws.{sets_append}
use Rattle.octets.specs.Buffers.{stored}
use Rattle.octets.specs.Numbers.{be_bytes}
use Rattle.octets.proofs.NumberLaws.{length_be}
use Rattle.octets.proofs.StoredLaws.{fits_stored}
use Rattle.statistics.specs.StatisticBytes.{PutAt, netaddr_bytes}
use Rattle.statistics.specs.StatisticChecks.{length_fits, lengths_fit}
use Rattle.statistics.specs.declared.Netaddr.{Netaddr}
use Rattle.statistics.specs.declared.LayoutUpdate.{LayoutUpdate}
use Rattle.statistics.proofs.StatisticLaws.{field_limits, opaque_most}

-- ---- how stores join

-- bytes stored right after others are stored with them
pub put_then : {l xs m ys n : List ℕ} {at p q : ℕ} → PutAt l at xs m p → PutAt m p ys n q → PutAt l at (xs ++ ys) n q
put_then {l} {xs} {m} {ys} {n} {at} {p} {q} a b = record {
  bytes = b.bytes ∙ ap (λ (k : List ℕ). sets k p ys) a.bytes ∙ ap (λ (k : ℕ). sets (sets l at xs) k ys) a.next ∙ sym (sets_append l at xs ys);
  next = rw (length-append xs ys) (omega (arith, a.next, b.next));
}

-- and so are bytes after two parts
pub put_after_two : (xs ys : List ℕ) {l m zs n : List ℕ} {at p q : ℕ} → PutAt l at (xs ++ ys) m p → PutAt m p zs n q → PutAt l at (xs ++ (ys ++ zs)) n q
put_after_two xs ys {zs = zs} a b = rw (← append_assoc xs ys zs) (put_then a b)

module _ {l m : List ℕ} {at : ℕ} where
  -- bytes of which there are k, and that fit
  pub put_fits : (bs : List ℕ) (k p : ℕ) → m ≡ stored l at bs → length bs ≡ k → p ≡ at + k → at + k ≤ length l → PutAt l at bs m p
  put_fits bs k p e n f h = record {
    bytes = e ∙ fits_stored l at bs (omega (arith, n));
    next = omega (arith, n);
  }

  pub put_number : (k v p : ℕ) → m ≡ stored l at (be_bytes k v) → p ≡ at + k → at + k ≤ length l → PutAt l at (be_bytes k v) m p
  put_number k v p e f h = put_fits (be_bytes k v) k p e (length_be k v) f h

  pub put_sized : (bs : List ℕ) (k p : ℕ) → m ≡ sets l at bs → length bs ≡ k → p ≡ at + k → PutAt l at bs m p
  put_sized bs k p e n f = record { bytes = e; next = omega (arith, n) }

-- ---- lengths that fit

pub record LengthsIn (u : LayoutUpdate) : Type 0 where
  pub netid : u.address.netid.length ≤ longest_netid
  pub text : u.address.text.length ≤ longest_address
  pub filehandle : u.filehandle.length ≤ longest_filehandle

pub lengths_in : (u : LayoutUpdate) → lengths_fit u ≡ true → LengthsIn u
unfolding lengths_fit
lengths_in u h =
    let x = both (length_fits longest_netid u.address.netid.length) _ h in
    let y = both (length_fits longest_address u.address.text.length) _ x.1 in
    record {
      netid = (field_limits longest_netid _ x.0).1;
      text = (field_limits longest_address _ y.0).1;
      filehandle = (field_limits longest_filehandle _ y.1).1;
    }

pub length_netaddr : (a : Netaddr) → length a.netid.bytes ≡ longest_netid → length a.text.bytes ≡ longest_address
    → a.netid.length ≤ longest_netid → a.text.length ≤ longest_address → length (netaddr_bytes a) ≤ 80
unfolding netaddr_bytes
length_netaddr a e f h k =
    let n = opaque_most a.netid.length a.netid.bytes (omega arith) 8 h refl in
    let m = opaque_most a.text.length a.text.bytes (omega arith) 64 k refl in
    simp length-append (omega (arith, n, m))
