-- Laws of reading what is there: an error, a run of errors, a head, a report, a run of reports.
use Prim.Native.Nat.{ℕ, suc, ◌+◌, ◌-◌, ◌*◌, ◌^◌, ◌<◌}
use mathlib.Core.Path.{◌≡◌, refl, sym, ap, ◌∙◌}
use mathlib.Core.List.{List, [], ◌∷◌, ◌++◌, append_assoc}
use mathlib.Core.Bool.{true}
use native.Mathlib.Omega.{arith}
use borrow.Author.Tests.{le-leb}
use lib.ListN.{length, take, drop, length-append, length-drop, take-append-drop}
use lib.Seq.{length-take-le}
use Rattle.base.proofs.ListLaws.{each_behind, each_taken}
use Rattle.base.specs.Answer.{accepted, pick}
use Rattle.base.specs.Lists.{Each}
use Rattle.base.proofs.AnswerLaws.{both, given_inv}
use Rattle.octets.specs.Numbers.{be_bytes, bytes_from}
use Rattle.octets.proofs.NumberLaws.{length_be}
use Rattle.octets.proofs.BytesAtLaws.{be_stands_at, BytesAt, bytes_at_parts}
use Rattle.xdr.specs.Items.{count_at}
use Rattle.xdr.specs.Parsed.{ok, then, many_at, end_of}
use Rattle.xdr.proofs.EndLaws.{none_end, others_end}
use Rattle.xdr.proofs.ItemsAtLaws.{bytes_stand, num_stands, range_stands}
use Rattle.report.specs.Reports.{error_at, error_fits, report_head_at, report_at}
use Rattle.report.specs.declared.ReportHead.{ReportHead}
use Rattle.report.proofs.ReportLaws.{report_ends}
use Rattle.report.specs.ReportOffsets.{HeadFits, reports_from, EntryFits, entries_in}
use Rattle.report.specs.Writing.{all_fit, counts, ErrorEntry, error_bytes, errors_bytes, head_bytes, checked_reports, entry_here, entries_at, reports_bytes}
use Rattle.report.proofs.EntryLaws.{Allowed, allowed}
use Rattle.report.proofs.StoringLaws.{length_error, length_head}

pub error_stands : (e : ErrorEntry) (s : List ℕ) (at : ℕ) → EntryFits e → error_fits e.status e.operation ≡ true → BytesAt (error_bytes e) s at
    → error_at s at ≡ ok (record { device = at; status = e.status; operation = e.operation }) (at + 24)
unfolding error_bytes error_at then pick
error_stands e s at f k w =
    let a = bytes_at_parts e.device (be_bytes 4 e.status ++ be_bytes 4 e.operation) s at w in
    let b = bytes_at_parts (be_bytes 4 e.status) (be_bytes 4 e.operation) s (at + length e.device) a.1 in
    let p : at + length e.device ≡ at + 16 = omega (arith, f.0) in
    let q : at + length e.device + length (be_bytes 4 e.status) ≡ at + 16 + 4 = omega (arith, f.0, length_be 4 e.status) in
    let st = num_stands 4 e.status s (at + 16) f.1 (rw p at b.0) in
    let op = num_stands 4 e.operation s (at + 16 + 4) f.2 (rw q at b.1) in
    let z : at + 16 + 4 + 4 ≡ at + 24 = omega arith in
    rw (bytes_stand 16 e.device s at f.0 refl a.0, st, op, k, z)

-- ---- runs, heads, reports

pub errors_stand : (es : List ErrorEntry) (s : List ℕ) (at : ℕ) → Each EntryFits es → all_fit es ≡ true → BytesAt (errors_bytes es) s at
    → end_of (many_at error_at (length es) s at) ≡ ok tt (at + 24 * length es)
unfolding errors_bytes all_fit
errors_stand [] s at f k w = let e : at + 24 * 0 ≡ at = omega arith in rw e (none_end error_at 0 s at refl)
errors_stand (e ∷ es) s at f k w =
    let a = bytes_at_parts (error_bytes e) (errors_bytes es) s at w in
    let b = both (error_fits e.status e.operation) (all_fit es) k in
    let n : at + length (error_bytes e) ≡ at + 24 = omega (arith, length_error e, f.0.0) in
    let r = errors_stand es s (at + 24) f.1 b.1 (rw n at a.1) in
    let z : at + 24 * suc (length es) ≡ at + 24 + 24 * length es = omega arith in
    let m : suc (length es) - 1 ≡ length es = omega arith in
    rw (z, others_end error_at (suc (length es)) s at _ _ (omega arith) (error_stands e s at f.0 b.0 a.0), m) r

pub head_stands : (h : ReportHead) (s : List ℕ) (at : ℕ) (es : List ErrorEntry) → HeadFits h → Allowed h es → BytesAt (head_bytes h) s at
    → report_head_at s at ≡ ok h (at + 36)
unfolding head_bytes report_head_at then pick count_at
head_stands h s at es f k w =
    let o = be_bytes 8 h.offset in
    let l = be_bytes 8 h.length in
    let n = be_bytes 4 h.errors in
    let o8 = length_be 8 h.offset in
    let l8 = length_be 8 h.length in
    let ol = length-append o l in
    let w' : BytesAt (o ++ l ++ (h.stateid ++ n)) s at = rw (append_assoc o l (h.stateid ++ n)) w in
    let a = bytes_at_parts (o ++ l) (h.stateid ++ n) s at w' in
    let c = bytes_at_parts h.stateid n s (at + length (o ++ l)) a.1 in
    let p1 : at + length (o ++ l) ≡ at + 16 = omega (arith, o8, l8, ol) in
    let p2 : at + length (o ++ l) + length h.stateid ≡ at + 16 + 16 = omega (arith, o8, l8, ol, f.2) in
    let big : h.errors < 256 ^ 4 = omega (arith, k.few) in
    let st : BytesAt h.stateid s (at + 16) = rw p1 at c.0 in
    let same : bytes_from 16 s (at + 16) ≡ h.stateid = ap (λ (m : ℕ). bytes_from m s (at + 16)) (sym f.2) ∙ st.same in
    let z : at + 16 + 16 + 4 ≡ at + 36 = omega arith in
    rw (
      range_stands h.offset h.length k.last s at f.0 f.1 k.range a.0,
      p1,
      bytes_stand 16 h.stateid s (at + 16) f.2 refl st,
      num_stands 4 h.errors s (at + 16 + 16) big (rw p2 at c.1),
      le-leb 1 h.errors k.some,
      le-leb h.errors 16 k.few,
      same,
      z,
    )

pub report_stands : (h : ReportHead) (s : List ℕ) (at : ℕ) (es : List ErrorEntry) → HeadFits h → Each EntryFits es → Allowed h es → length es ≡ h.errors
    → BytesAt (head_bytes h ++ errors_bytes es) s at → report_at s at ≡ ok (record { head = h; errors_offset = at + 36 }) (at + 36 + 24 * h.errors)
unfolding then
report_stands h s at es f g k n w =
    let a = bytes_at_parts (head_bytes h) (errors_bytes es) s at w in
    let p : at + length (head_bytes h) ≡ at + 36 = omega (arith, length_head h f.2) in
    let r = errors_stand es s (at + 36) g k.fit (rw p at a.1) in
    rw (report_ends s at, head_stands h s at es f k a.0, ← n, r)

pub length_errors_fit : (es : List ErrorEntry) → Each EntryFits es → length (errors_bytes es) ≡ 24 * length es
unfolding errors_bytes
length_errors_fit [] g = refl
length_errors_fit (e ∷ es) g =
    rw (length-append (error_bytes e) (errors_bytes es)) (omega (arith, length_error e, g.0.0, length_errors_fit es g.1))

pub reports_stand : (hs : List ReportHead) (es : List ErrorEntry) (s : List ℕ) (at : ℕ) → Each HeadFits hs → Each EntryFits es
    → checked_reports hs es ≡ accepted tt → counts hs ≡ length es → BytesAt (reports_bytes hs es) s at
    → many_at report_at (length hs) s at ≡ ok (reports_from hs at) (at + length (reports_bytes hs es))
unfolding many_at reports_from then checked_reports counts reports_bytes
reports_stand [] es s at f g j c w = let e : at + 0 ≡ at = omega arith in rw e
reports_stand (h ∷ hs) es s at f g j c w =
    let xs = take h.errors es in
    let ys = drop h.errors es in
    let a = given_inv _ _ _ j in
    let k = allowed h xs a.first in
    let n : length xs ≡ h.errors = length-take-le h.errors es (omega (arith, c)) in
    let w' : BytesAt (head_bytes h ++ errors_bytes xs ++ reports_bytes hs ys) s at = rw (append_assoc (head_bytes h) (errors_bytes xs) (reports_bytes hs ys)) w in
    let b = bytes_at_parts (head_bytes h ++ errors_bytes xs) (reports_bytes hs ys) s at w' in
    let m : length (errors_bytes xs) ≡ 24 * h.errors = length_errors_fit xs (each_taken EntryFits h.errors es g) ∙ ap (λ (i : ℕ). 24 * i) n in
    let p : at + length (head_bytes h ++ errors_bytes xs) ≡ at + 36 + 24 * h.errors = rw (length-append (head_bytes h) (errors_bytes xs)) (omega (arith, length_head h f.0.2, m)) in
    let c' : counts hs ≡ length ys = rw (length-drop h.errors es) (omega (arith, c)) in
    let r = reports_stand hs ys s (at + 36 + 24 * h.errors) f.1 (each_behind EntryFits h.errors es g) a.rest c' (rw p at b.1) in
    let z : at + 36 + 24 * h.errors + length (reports_bytes hs ys) ≡ at + length (head_bytes h ++ (errors_bytes xs ++ reports_bytes hs ys)) =
    rw (length-append (head_bytes h) (errors_bytes xs ++ reports_bytes hs ys), length-append (errors_bytes xs) (reports_bytes hs ys)) (omega (arith, length_head h f.0.2, m)) in
    rw (report_stands h s at xs f.0 (each_taken EntryFits h.errors es g) k n b.0, r, z)

-- ---- the entries that stand there

pub entry_stands : (e : ErrorEntry) (s : List ℕ) (at : ℕ) → EntryFits e → BytesAt (error_bytes e) s at → entry_here s at ≡ e
unfolding error_bytes entry_here
entry_stands e s at f w =
    let a = bytes_at_parts e.device (be_bytes 4 e.status ++ be_bytes 4 e.operation) s at w in
    let b = bytes_at_parts (be_bytes 4 e.status) (be_bytes 4 e.operation) s (at + length e.device) a.1 in
    let p : at + length e.device ≡ at + 16 = omega (arith, f.0) in
    let q : at + length e.device + length (be_bytes 4 e.status) ≡ at + 20 = omega (arith, f.0, length_be 4 e.status) in
    let d : bytes_from 16 s at ≡ e.device = ap (λ (m : ℕ). bytes_from m s at) (sym f.0) ∙ a.0.same in
    rw (d, be_stands_at 4 e.status s (at + 16) f.1 (rw p at b.0), be_stands_at 4 e.operation s (at + 20) f.2 (rw q at b.1))

pub entries_stand : (es : List ErrorEntry) (s : List ℕ) (at : ℕ) → Each EntryFits es → BytesAt (errors_bytes es) s at → entries_at (length es) s at ≡ es
unfolding errors_bytes entries_at
entries_stand [] s at f w = refl
entries_stand (e ∷ es) s at f w =
    let a = bytes_at_parts (error_bytes e) (errors_bytes es) s at w in
    let n : at + length (error_bytes e) ≡ at + 24 = omega (arith, length_error e, f.0.0) in
    rw (entry_stands e s at f.0 a.0, entries_stand es s (at + 24) f.1 (rw n at a.1))

pub entries_from : (hs : List ReportHead) (es : List ErrorEntry) (s : List ℕ) (at : ℕ) → Each HeadFits hs → Each EntryFits es
    → counts hs ≡ length es → BytesAt (reports_bytes hs es) s at → entries_in s (reports_from hs at) ≡ es
unfolding reports_from entries_in counts reports_bytes
entries_from [] [] s at f g c w = refl
entries_from [] (e ∷ es) s at f g c w = absurd (omega (arith, c))
entries_from (h ∷ hs) es s at f g c w =
    let xs = take h.errors es in
    let ys = drop h.errors es in
    let n : length xs ≡ h.errors = length-take-le h.errors es (omega (arith, c)) in
    let m : length (errors_bytes xs) ≡ 24 * h.errors = length_errors_fit xs (each_taken EntryFits h.errors es g) ∙ ap (λ (i : ℕ). 24 * i) n in
    let a = bytes_at_parts (head_bytes h) (errors_bytes xs ++ reports_bytes hs ys) s at w in
    let b = bytes_at_parts (errors_bytes xs) (reports_bytes hs ys) s (at + length (head_bytes h)) a.1 in
    let p : at + length (head_bytes h) ≡ at + 36 = omega (arith, length_head h f.0.2) in
    let q : at + length (head_bytes h) + length (errors_bytes xs) ≡ at + 36 + 24 * h.errors = omega (arith, length_head h f.0.2, m) in
    let c' : counts hs ≡ length ys = rw (length-drop h.errors es) (omega (arith, c)) in
    let x : entries_at h.errors s (at + 36) ≡ xs =
    ap (λ (i : ℕ). entries_at i s (at + 36)) (sym n) ∙ entries_stand xs s (at + 36) (each_taken EntryFits h.errors es g) (rw p at b.0) in
    let y = entries_from hs ys s (at + 36 + 24 * h.errors) f.1 (each_behind EntryFits h.errors es g) c' (rw q at b.1) in
    rw (x, y) (take-append-drop h.errors es)
