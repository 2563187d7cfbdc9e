-- Laws of what is stored: how long each part of a body is, and the parts one after the other.
use Prim.Native.Nat.{ℕ, zero, suc, ◌+◌, ◌*◌, ◌≤◌, ◌<◌}
use mathlib.Core.Path.{◌≡◌, refl, sym, ap, ◌∙◌}
use mathlib.Core.List.{List, [], ◌∷◌, ◌++◌}
use mathlib.Core.Bool.{Bool, true, false, not, false≢true}
use native.Mathlib.Omega.{arith}
use native.Mathlib.Nat.{zero-add}
use borrow.Author.Tests.{eqb-true, leb-true, eq-eqb, le-leb, lt-leb, ne_eqb}
use lib.Dec.{eqb, leb}
use lib.ListN.{length, take, drop, length-append}
use lib.Seq.{length-take-le, sets, sets-eq, length-sets}
use Rattle.base.specs.Answer.{Answer, accepted, refused, given, pick}
use Rattle.base.proofs.AnswerLaws.{both, given_inv}
use Rattle.octets.specs.Buffers.{stored}
use Rattle.octets.specs.Numbers.{AllBytes, be_at, be_bytes, be_value, bytes_from}
use Rattle.octets.proofs.NumberLaws.{length_be, length_bytes}
use Rattle.octets.proofs.BytesAtLaws.{be_at_stands, bytes_are, BytesAt, bytes_at_join}
use Rattle.base.proofs.ListLaws.{sets_append}
use Rattle.octets.proofs.StoredLaws.{fits_stored, length_stored, stored_then}
use Rattle.report.specs.Reports.{error_fits}
use Rattle.report.specs.declared.ReportHead.{ReportHead}
use Rattle.report.specs.Writing.{output_after, all_fit, body_bytes, body_written, counts, ErrorEntry, error_bytes, errors_bytes, fitted, head_bytes, checked_reports, checked_report, entry_here, entries_at, reports_bytes, stateids_whole}
use Rattle.base.specs.Lists.{length_of}
use Rattle.report.proofs.EntryLaws.{allowed, drop_entries, length_entries, take_entries}

-- ---- how long each part is

pub length_error : (e : ErrorEntry) → length (error_bytes e) ≡ length e.device + 8
unfolding error_bytes
length_error e = simp (length-append, length_be 4 e.status, length_be 4 e.operation) (omega arith)

pub length_head : (h : ReportHead) → length h.stateid ≡ 16 → length (head_bytes h) ≡ 36
unfolding head_bytes
length_head h e = simp (length-append, length_be 8 h.offset, length_be 8 h.length, length_be 4 h.errors) (omega arith)

pub length_record : (s : List ℕ) (at : ℕ) → at + 24 ≤ length s → length (error_bytes (entry_here s at)) ≡ 24
unfolding entry_here
length_record s at h =
    let m = length_bytes 16 s at (omega arith) in
    length_error (entry_here s at) ∙ omega (arith, m)

pub length_errors : (n : ℕ) (s : List ℕ) (at : ℕ) → at + 24 * n ≤ length s → length (errors_bytes (entries_at n s at)) ≡ 24 * n
unfolding errors_bytes entries_at
length_errors zero s at h = refl
length_errors (suc n) s at h =
    let a = length_record s at (omega arith) in
    let b = length_errors n s (at + 24) (omega arith) in
    simp length-append (omega (arith, a, b))

pub length_reports : (hs : List ReportHead) (s : List ℕ) (at : ℕ) → stateids_whole hs ≡ true → at + 24 * counts hs ≤ length s
    → length (reports_bytes hs (entries_at (counts hs) s at)) ≡ 36 * length hs + 24 * counts hs
unfolding reports_bytes counts stateids_whole
length_reports [] s at e h = refl
length_reports (h ∷ hs) s at e n =
    let w = both (eqb (length h.stateid) 16) (stateids_whole hs) e in
    let a = length_head h (eqb-true (length h.stateid) 16 w.0) in
    let b = length_errors h.errors s at (omega arith) in
    let c = length_reports hs s (at + 24 * h.errors) w.1 (omega arith) in
    rw (take_entries h.errors (counts hs) s at, drop_entries h.errors (counts hs) s at) (simp length-append (omega (arith, a, b, c)))

pub length_body : (hs : List ReportHead) (s z : List ℕ) → stateids_whole hs ≡ true → 24 * counts hs ≤ length s
    → length (body_bytes hs (entries_at (counts hs) s 0) z) ≡ 4 + 36 * length hs + 24 * counts hs + length z
unfolding body_bytes
length_body hs s z e h =
    let a = length_reports hs s 0 e (omega arith) in
    simp (length-append, length_be 4 (length hs)) (omega (arith, a))

-- ---- records that stand in bytes are written as they stand

entry_back : (s : List ℕ) (at : ℕ) → AllBytes s → at + 24 ≤ length s → BytesAt (error_bytes (entry_here s at)) s at
unfolding error_bytes entry_here
entry_back s at b r =
    let d = bytes_from 16 s at in
    let st = be_bytes 4 (be_at 4 s (at + 16)) in
    let op = be_bytes 4 (be_at 4 s (at + 20)) in
    let d16 : length d ≡ 16 = length_bytes 16 s at (omega (arith, r)) in
    let st4 = length_be 4 (be_at 4 s (at + 16)) in
    bytes_at_join d (st ++ op) s at (at + 16) (omega (arith, d16)) (bytes_are 16 s at (omega (arith, r)))
    (bytes_at_join st op s (at + 16) (at + 20) (omega (arith, st4)) (be_at_stands 4 s (at + 16) b (omega (arith, r))) (be_at_stands 4 s (at + 20) b (omega (arith, r))))

pub entries_back : (n : ℕ) (s : List ℕ) (at : ℕ) → AllBytes s → at + 24 * n ≤ length s → BytesAt (errors_bytes (entries_at n s at)) s at
unfolding errors_bytes entries_at
entries_back zero s at b h = record { room = omega (arith, h); same = refl }
entries_back (suc n) s at b h =
    let r : at + 24 ≤ length s = omega arith in
    let m = length_record s at r in
    bytes_at_join (error_bytes (entry_here s at)) (errors_bytes (entries_at n s (at + 24))) s at (at + 24) (omega (arith, m)) (entry_back s at b r) (entries_back n s (at + 24) b (omega arith))

pub errors_are_bytes : (n : ℕ) (s : List ℕ) (at : ℕ) → AllBytes s → at + 24 * n ≤ length s → errors_bytes (entries_at n s at) ≡ bytes_from (24 * n) s at
errors_are_bytes n s at b h = sym (entries_back n s at b h).same ∙ ap (λ (k : ℕ). bytes_from k s at) (length_errors n s at h)

-- ---- what is allowed stands in the slice whole

be_there : (k : ℕ) (s : List ℕ) (at : ℕ) → 0 < be_at k s at → at + k ≤ length s
unfolding be_at pick
be_there k s at h = go (leb (at + k) (length s)) refl h where
  go : (t : Bool) → leb (at + k) (length s) ≡ t → 0 < pick t (be_value (bytes_from k s at)) 0 → at + k ≤ length s
  go true e n = leb-true (at + k) (length s) e
  go false e n = absurd (omega (arith, n))

fits_operation : (status operation : ℕ) → error_fits status operation ≡ true → 0 < operation
unfolding error_fits
fits_operation status zero h = absurd (false≢true (both (not (eqb status 0)) false h).1)
fits_operation status (suc n) h = omega arith

pub fit_inside : (n : ℕ) (s : List ℕ) (at : ℕ) → all_fit (entries_at n s at) ≡ true → at ≤ length s → at + 24 * n ≤ length s
unfolding all_fit entries_at entry_here
fit_inside zero s at h k = omega arith
fit_inside (suc n) s at h k =
    let operation = be_at 4 s (at + 20) in
    let a = both (error_fits (be_at 4 s (at + 16)) operation) (all_fit (entries_at n s (at + 24))) h in
    let b = be_there 4 s (at + 20) (fits_operation (be_at 4 s (at + 16)) operation a.0) in
    let c = fit_inside n s (at + 24) a.1 (omega (arith, b)) in
    omega (arith, c)

checked_cons : (h : ReportHead) (hs : List ReportHead) (s : List ℕ) (at : ℕ)
    → checked_reports (h ∷ hs) (entries_at (counts (h ∷ hs)) s at)
    ≡ given (checked_report h (entries_at h.errors s at)) (λ u. checked_reports hs (entries_at (counts hs) s (at + 24 * h.errors)))
unfolding checked_reports counts
checked_cons h hs s at = rw (take_entries h.errors (counts hs) s at, drop_entries h.errors (counts hs) s at)

pub checked_inside : (hs : List ReportHead) (s : List ℕ) (at : ℕ) → checked_reports hs (entries_at (counts hs) s at) ≡ accepted tt
    → at ≤ length s → (at + 24 * counts hs ≤ length s) × (counts hs ≤ 16 * length hs)
unfolding counts
checked_inside [] s at e h = (omega arith, omega arith)
checked_inside (h ∷ hs) s at e n =
    let a = given_inv _ _ _ (sym (checked_cons h hs s at) ∙ e) in
    let b = allowed h _ a.first in
    let c = fit_inside h.errors s at b.fit n in
    let d = checked_inside hs s (at + 24 * h.errors) a.rest c in
    (omega (arith, d.0), omega (arith, d.1, b.few))

-- the sizes of a body that is allowed
pub record Sizes (count : ℕ) (heads : List ReportHead) (n : ℕ) (errors z : List ℕ) : Type 0 where
  pub reports : length (take count heads) ≡ count
  pub few : n ≤ 128
  pub inside : 24 * counts (take count heads) ≤ length errors
  pub before : 4 + length (reports_bytes (take count heads) (entries_at (counts (take count heads)) errors 0)) ≡ 4 + 36 * count + 24 * n
  pub body : length (body_bytes (take count heads) (entries_at (counts (take count heads)) errors 0) z) ≡ 4 + 36 * count + 24 * n + length z

pub sizes : (count : ℕ) (heads : List ReportHead) (n : ℕ) (errors z : List ℕ) → count ≤ 8 → length heads ≡ 8 → n ≡ counts (take count heads)
    → stateids_whole (take count heads) ≡ true → checked_reports (take count heads) (entries_at (counts (take count heads)) errors 0) ≡ accepted tt
    → Sizes count heads n errors z
sizes count heads n errors z h l q s j =
    let r : length (take count heads) ≡ count = length-take-le count heads (omega arith) in
    let i = checked_inside (take count heads) errors 0 j (omega arith) in
    let k : 24 * counts (take count heads) ≤ length errors = omega (arith, i.0) in
    let b = length_body (take count heads) errors z s k in
    let m = length_reports (take count heads) errors 0 s (omega (arith, k)) in
    record {
      reports = r;
      few = omega (arith, i.1, r, q);
      inside = k;
      before = omega (arith, m, r, q);
      body = omega (arith, b, r, q);
    }

-- ---- what is stored

pub errors_stored : (l : List ℕ) (p n : ℕ) (s : List ℕ) (from : ℕ) (bs : List ℕ) → AllBytes s → p + 24 * n ≤ length l → from + 24 * n ≤ length s
    → bs ≡ bytes_from (24 * n) s from → stored l p bs ≡ sets l p (errors_bytes (entries_at n s from))
errors_stored l p n s from bs b r h e =
    let es = errors_bytes (entries_at n s from) in
    let m = length_errors n s from h in
    rw (e, ← errors_are_bytes n s from b h) (fits_stored l p es (omega (arith, m)))

pub head_stored : (l : List ℕ) (at : ℕ) (h : ReportHead) → length h.stateid ≡ 16 → at + 36 ≤ length l
    → stored (stored (stored (stored l at (be_bytes 8 h.offset)) (at + 8) (be_bytes 8 h.length)) (at + 16) h.stateid) (at + 32) (be_bytes 4 h.errors)
    ≡ sets l at (head_bytes h)
unfolding head_bytes
head_stored l at h e n =
    let o = be_bytes 8 h.offset in
    let w = be_bytes 8 h.length in
    let s = h.stateid in
    let c = be_bytes 4 h.errors in
    let a = length_be 8 h.offset in
    let b = length_be 8 h.length in
    let d = length_be 4 h.errors in
    let l1 = stored l at o in
    let l2 = stored l1 (at + 8) w in
    let n1 : length l1 ≡ length l = length_stored l at o in
    let n2 : length l2 ≡ length l = length_stored l1 (at + 8) w ∙ n1 in
    let sc : length (s ++ c) ≡ 20 = simp length-append (omega (arith, d, e)) in
    let wsc : length (w ++ (s ++ c)) ≡ 28 = length-append w (s ++ c) ∙ omega (arith, b, sc) in
    let owsc : at + length (o ++ (w ++ (s ++ c))) ≤ length l = rw (length-append o (w ++ (s ++ c))) (omega (arith, a, wsc)) in
    stored_then l2 (at + 16) (at + 32) s c (omega (arith, e)) (omega (arith, n2, d))
    ∙ stored_then l1 (at + 8) (at + 16) w (s ++ c) (omega (arith, b)) (omega (arith, n1, sc))
    ∙ stored_then l at (at + 8) o (w ++ (s ++ c)) (omega (arith, a)) (omega (arith, wsc))
    ∙ fits_stored l at (o ++ (w ++ (s ++ c))) owsc

pub report_stored : (l : List ℕ) (p m : ℕ) (xs ys zs : List ℕ) → length xs ≡ 36 → length ys ≡ m
    → sets l p (xs ++ (ys ++ zs)) ≡ sets (sets (sets l p xs) (p + 36) ys) (p + (36 + m)) zs
report_stored l p m xs ys zs a b =
    let e : p + (36 + m) ≡ p + length xs + length ys = omega arith in
    let f : p + 36 ≡ p + length xs = omega arith in
    rw (e, f) (sets_append l p xs (ys ++ zs) ∙ sets_append (sets l p xs) (p + length xs) ys zs)

-- ---- the whole

pub body_stored : (l : List ℕ) (hs : List ReportHead) (es : List ErrorEntry) (z : List ℕ) (count p : ℕ) → length hs ≡ count
    → 4 + length (reports_bytes hs es) ≡ p → p + length z ≤ length l
    → stored (sets (stored l 0 (be_bytes 4 count)) 4 (reports_bytes hs es)) p z ≡ body_bytes hs es z ++ drop (length (body_bytes hs es z)) l
unfolding body_bytes
body_stored l hs es z count p e r n =
    let c = be_bytes 4 (length hs) in
    let b = reports_bytes hs es in
    let c4 = length_be 4 (length hs) in
    let f : 0 + length c ≤ length l = omega (arith, c4) in
    let m : length (sets (sets l 0 c) 4 b) ≡ length l = length-sets (sets l 0 c) 4 b ∙ length-sets l 0 c in
    let g : p + length z ≤ length (sets (sets l 0 c) 4 b) = omega (arith, m) in
    let bz = length-append b z in
    let k : 0 + length (c ++ (b ++ z)) ≤ length l = rw (length-append c (b ++ z)) (omega (arith, c4, bz)) in
    let q : sets (sets (sets l 0 c) 4 b) (4 + length b) z ≡ sets l 0 (c ++ (b ++ z)) =
    sym (sets_append l 0 c (b ++ z) ∙ ap (λ (i : ℕ). sets (sets l 0 c) i (b ++ z)) (omega (arith, c4)) ∙ sets_append (sets l 0 c) 4 b z) in
    rw (← e, fits_stored l 0 c f, fits_stored (sets (sets l 0 c) 4 b) p z g, ← r, q) (sets-eq (c ++ (b ++ z)) l 0 k ∙ ap (λ (i : ℕ). c ++ (b ++ z) ++ drop i l) (zero-add (length (c ++ (b ++ z)))))

-- ---- the whole answer, by what was found

pub written_refused : (l : List ℕ) (x : Answer (List ℕ)) (n : ℕ) → x ≡ refused n → (refused n ≡ length_of x) × (l ≡ output_after l x)
unfolding length_of output_after given
written_refused l x n e = rw e (refl, refl)

pub written_accepted : (l m : List ℕ) (x : Answer (List ℕ)) (bs : List ℕ) (size : ℕ) → x ≡ accepted bs → size ≡ length bs → m ≡ bs ++ drop (length bs) l
    → (accepted size ≡ length_of x) × (m ≡ output_after l x)
unfolding length_of output_after given
written_accepted l m x bs size e s k = rw e (ap accepted s, k)

pub many_refused : (count : ℕ) (heads : List ReportHead) (es : List ErrorEntry) (k : Answer (Unit {0})) (z : List ℕ) (room : ℕ) → 8 < count
    → body_written count heads es k z room ≡ refused 8
unfolding body_written pick
many_refused count heads es k z room h = rw (lt-leb _ _ h)

pub list_refused : (count : ℕ) (heads : List ReportHead) (n : ℕ) (errors : List ℕ) (k : Answer (Unit {0})) (z : List ℕ) (room : ℕ) → count ≤ 8
    → (counts (take count heads) ≡ n → ⊥) → body_written count heads (entries_at n errors 0) k z room ≡ refused 8
unfolding body_written pick
list_refused count heads n errors k z room h e = rw (le-leb _ _ h, length_entries n errors 0, ne_eqb _ _ e)

module _ (count : ℕ) (heads : List ReportHead) (n : ℕ) (errors : List ℕ) (k : Answer (Unit {0})) (z : List ℕ) (room : ℕ) (h : count ≤ 8) (q : n ≡ counts (take count heads)) where
  pub reports_refused : (m : ℕ) → checked_reports (take count heads) (entries_at (counts (take count heads)) errors 0) ≡ refused m
      → body_written count heads (entries_at n errors 0) k z room ≡ refused m
  unfolding body_written pick given
  reports_refused m j =
      rw (le-leb _ _ h, length_entries n errors 0, q, eq-eqb (counts (take count heads)) (counts (take count heads)) refl, j)

  module _ (j : checked_reports (take count heads) (entries_at (counts (take count heads)) errors 0) ≡ accepted tt) where
    pub tail_refused : (m : ℕ) → k ≡ refused m → body_written count heads (entries_at n errors 0) k z room ≡ refused m
    unfolding body_written pick given
    tail_refused m e =
        rw (le-leb _ _ h, length_entries n errors 0, q, eq-eqb (counts (take count heads)) (counts (take count heads)) refl, j, e)

    pub body_allowed : k ≡ accepted tt
        → body_written count heads (entries_at n errors 0) k z room ≡ fitted (body_bytes (take count heads) (entries_at (counts (take count heads)) errors 0) z) room
    unfolding body_written pick given
    body_allowed e =
        rw (le-leb _ _ h, length_entries n errors 0, q, eq-eqb (counts (take count heads)) (counts (take count heads)) refl, j, e)

pub too_short : (bs : List ℕ) (room : ℕ) → room < length bs → fitted bs room ≡ refused 26
unfolding fitted pick
too_short bs room h = rw (lt-leb _ _ h)

pub fits : (bs : List ℕ) (room : ℕ) → length bs ≤ room → fitted bs room ≡ accepted bs
unfolding fitted pick
fits bs room h = rw (le-leb _ _ h)
