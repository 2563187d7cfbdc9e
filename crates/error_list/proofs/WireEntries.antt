-- Wire entries in a buffer: one more behind others, and what is written from them in place of the list.
use Prim.Native.Nat.{ℕ, zero, suc, ◌+◌, ◌-◌, ◌*◌, ◌≤◌, min}
use mathlib.Core.Path.{◌≡◌, refl, sym, ap, ◌∙◌}
use mathlib.Core.List.{List, [], ◌∷◌, ◌++◌, append_assoc}
use mathlib.Core.Bool.{Bool, true, false}
use native.Mathlib.Omega.{arith}
use borrow.Author.Tests.{leb-true, leb-false}
use lib.Dec.{leb}
use lib.ListN.{length, take, drop, length-map}
use lib.Seq.{drop_at, length-sets, length-take-le, sets, sets-eq, take_all, take_at}
use Rattle.base.proofs.ListLaws.{distinct_behind, distinct_less}
use Rattle.octets.specs.Buffers.{stored}
use Rattle.octets.proofs.StoredLaws.{fits_stored}
use Rattle.octets.specs.Numbers.{be_at, bytes_from}
use Rattle.octets.proofs.BytesAtLaws.{BytesAt}
use Rattle.report.specs.declared.Outgoing.{Outgoing}
use Rattle.report.specs.declared.ReportHead.{ReportHead}
use Rattle.report.specs.ReportOffsets.{EntryFits}
use Rattle.report.specs.Writing as writing
use Rattle.report.specs.Writing.{error_bytes, entry_here, entries_at, reports_only, reports_written, return_written}
use Rattle.report.proofs.EntryLaws.{length_entries, take_entries}
use Rattle.report.proofs.StoringLaws.{length_error}
use Rattle.report.proofs.WrittenLaws.{entry_stands}
use Rattle.error_list.specs.Entries.{entry_of, entries_of}
use Rattle.error_list.specs.declared.ErrorEntry.{ErrorEntry}
use Rattle.error_list.proofs.FirstEntries.{firsts_decide}

-- ---- buffers that begin alike

bytes_alike : (k m : ℕ) (xs ys : List ℕ) (at : ℕ) → at + k ≤ m → take m xs ≡ take m ys → bytes_from k xs at ≡ bytes_from k ys at
bytes_alike k m xs ys at h e = distinct_behind at k xs ys (distinct_less (at + k) m xs ys h e)

entry_alike : (m : ℕ) (xs ys : List ℕ) (at : ℕ) → at + 24 ≤ m → length xs ≡ length ys → take m xs ≡ take m ys → entry_here xs at ≡ entry_here ys at
unfolding entry_here be_at
entry_alike m xs ys at h l e =
    rw (l, bytes_alike 16 m xs ys at (omega arith) e, bytes_alike 4 m xs ys (at + 16) (omega arith) e, bytes_alike 4 m xs ys (at + 20) (omega arith) e)

entries_alike : (n m : ℕ) (xs ys : List ℕ) (at : ℕ) → at + 24 * n ≤ m → length xs ≡ length ys → take m xs ≡ take m ys → entries_at n xs at ≡ entries_at n ys at
unfolding entries_at
entries_alike zero m xs ys at h l e = refl
entries_alike (suc n) m xs ys at h l e = rw (entry_alike m xs ys at (omega arith) l e, entries_alike n m xs ys (at + 24) (omega arith) l e)

-- ---- one more record

entries_more : (n : ℕ) (s : List ℕ) (at : ℕ) → entries_at (n + 1) s at ≡ entries_at n s at ++ (entry_here s (at + 24 * n) ∷ [])
unfolding entries_at
entries_more zero s at = let e : at + 24 * 0 ≡ at = omega arith in rw e
entries_more (suc n) s at =
    let e : suc n + 1 ≡ suc (n + 1) = omega arith in
    let f : at + 24 * suc n ≡ at + 24 + 24 * n = omega arith in
    rw (e, f, entries_more n s (at + 24))

three_parts : (l : List ℕ) (at : ℕ) (bs : List ℕ) → at + length bs ≤ length l → sets l at bs ≡ take at l ++ (bs ++ drop (at + length bs) l)
three_parts l at bs h = sets-eq bs l at h ∙ append_assoc (take at l) bs (drop (at + length bs) l)

bytes_at_stored : (l : List ℕ) (at : ℕ) (bs : List ℕ) → at + length bs ≤ length l → BytesAt bs (sets l at bs) at
bytes_at_stored l at bs h =
    let n : length (take at l) ≡ at = length-take-le at l (omega arith) in
    record {
      room = rw (length-sets l at bs) h;
      same = rw (three_parts l at bs h, drop_at (take at l) (bs ++ drop (at + length bs) l) at n) (take_at bs (drop (at + length bs) l) (length bs) refl);
    }

pub entry_stored : (l : List ℕ) (i : ℕ) (r : writing.ErrorEntry) → EntryFits r → 24 * (i + 1) ≤ length l
    → entries_at (i + 1) (stored l (24 * i) (error_bytes r)) 0 ≡ entries_at i l 0 ++ (r ∷ [])
entry_stored l i r f h =
    let bs = error_bytes r in
    let n : 24 * i + length bs ≤ length l = omega (arith, length_error r, f.0) in
    let m : length (take (24 * i) l) ≡ 24 * i = length-take-le (24 * i) l (omega arith) in
    let z : 0 + 24 * i ≡ 24 * i = omega arith in
    let t : take (24 * i) (sets l (24 * i) bs) ≡ take (24 * i) l =
    ap (take (24 * i)) (three_parts l (24 * i) bs n) ∙ take_at (take (24 * i) l) (bs ++ drop (24 * i + length bs) l) (24 * i) m in
    let k : entries_at i (sets l (24 * i) bs) 0 ≡ entries_at i l 0 = entries_alike i (24 * i) (sets l (24 * i) bs) l 0 (omega arith) (length-sets l (24 * i) bs) t in
    rw (fits_stored l (24 * i) bs n, entries_more i (sets l (24 * i) bs) 0, k, z, entry_stands r (sets l (24 * i) bs) (24 * i) f (bytes_at_stored l (24 * i) bs n))

-- ---- from the entries in place of the list

taken_entries : (n : ℕ) (es : List ErrorEntry) → entries_of (take n es) ≡ take n (entries_of es)
taken_entries zero es = refl
taken_entries (suc n) [] = refl
taken_entries (suc n) (e ∷ es) = ap {B = List writing.ErrorEntry} (λ rs. entry_of e ∷ rs) (taken_entries n es)

firsts_are : (es : List writing.ErrorEntry) (s : List ℕ) → entries_at (min (length es) 128) s 0 ≡ take (min (length es) 128) es
    → take 128 (entries_at (length es) s 0) ≡ take 128 es
firsts_are es s h = go (leb (length es) 128) refl where
  go : (t : Bool) → leb (length es) 128 ≡ t → take 128 (entries_at (length es) s 0) ≡ take 128 es
  go true k =
      let few : length es ≤ 128 = leb-true (length es) 128 k in
      let m : min (length es) 128 ≡ length es = omega arith in
      let n : length (entries_at (length es) s 0) ≤ 128 = rw (length_entries (length es) s 0) few in
      take_all 128 (entries_at (length es) s 0) n ∙ rw m at h ∙ take_all (length es) es (omega arith) ∙ sym (take_all 128 es few)
  go false k =
      let many = leb-false (length es) 128 k in
      let m : min (length es) 128 ≡ 128 = omega arith in
      let n : length es ≡ 128 + (length es - 128) = omega arith in
      ap (λ (i : ℕ). take 128 (entries_at i s 0)) n ∙ take_entries 128 (length es - 128) s 0 ∙ rw m at h

pub written_from : (o : Outgoing) (es : List ErrorEntry) (s : List ℕ) (n room : ℕ) → n ≡ min (length es) 128
    → entries_at n s 0 ≡ entries_of (take n es) → return_written o (entries_at (length es) s 0) room ≡ return_written o (entries_of es) room
written_from o es s n room few h =
    let k : length (entries_of es) ≡ length es = length-map es entry_of in
    let l : length (entries_at (length es) s 0) ≡ length (entries_of es) = length_entries (length es) s 0 ∙ sym k in
    let f = firsts_are (entries_of es) s (rw (k, ← few) (h ∙ taken_entries n es)) in
    firsts_decide o (entries_at (length es) s 0) (entries_of es) room l (rw k at f)

-- error reports alone
pub reports_from_lem : (count : ℕ) (heads : List ReportHead) (es : List ErrorEntry) (s : List ℕ) (n room : ℕ) → n ≡ min (length es) 128
    → entries_at n s 0 ≡ entries_of (take n es) → reports_written count heads (entries_at (length es) s 0) room ≡ reports_written count heads (entries_of es) room
unfolding reports_written
reports_from_lem count heads es s n room few h = written_from (reports_only count heads) es s n room few h
