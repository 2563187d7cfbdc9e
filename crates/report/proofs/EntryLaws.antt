-- Laws of heads and records taken one by one, and of the entries that a list of heads uses.
use Prim.Native.Nat.{ℕ, zero, suc, ◌+◌, ◌-◌, ◌*◌, ◌≤◌, ◌<◌}
use mathlib.Core.Path.{◌≡◌, refl, ap}
use mathlib.Core.List.{List, [], ◌∷◌, ◌++◌}
use mathlib.Core.Bool.{Bool, true, ◌&&◌}
use native.Mathlib.Omega.{arith}
use native.Mathlib.Numerals.{add-one}
use borrow.Author.Tests.{eq-eqb, leb-true}
use lib.Dec.{leb}
use lib.ListN.{length, take, drop, get_or, drop_of_length-le}
use lib.Seq.{drop-cons}
use Rattle.base.specs.Answer.{accepted, given}
use Rattle.base.specs.Ranges.{range_last}
use Rattle.base.proofs.AnswerLaws.{both, given_inv, pick_accepted}
use Rattle.octets.specs.Numbers.{be_at}
use Rattle.report.specs.Reports.{error_fits}
use Rattle.report.specs.declared.ReportHead.{ReportHead}
use Rattle.report.specs.Writing.{all_fit, counts, ErrorEntry, errors_bytes, head_bytes, checked_reports, checked_report, entry_here, entries_at, reports_bytes, stateids_whole}

-- what is in no entry of an array
abbrev pub no_head : ReportHead
no_head = record { offset = 0; length = 0; stateid = []; errors = 0 }

-- ---- one head after the other

pub counts_next : (hs : List ReportHead) (i : ℕ) → i < length hs
    → counts (drop i hs) ≡ (get_or hs i no_head).errors + counts (drop (i + 1) hs)
unfolding counts
counts_next hs i h = rw (add-one i, drop-cons hs i no_head h)

pub counts_none : (hs : List ReportHead) (i : ℕ) → length hs ≤ i → counts (drop i hs) ≡ 0
unfolding counts
counts_none hs i h = rw (drop_of_length-le hs h)

pub whole_next : (hs : List ReportHead) (i : ℕ) → i < length hs → length (get_or hs i no_head).stateid ≡ 16
    → stateids_whole (drop i hs) ≡ stateids_whole (drop (i + 1) hs)
unfolding stateids_whole
whole_next hs i h e = rw (add-one i, drop-cons hs i no_head h, eq-eqb (length (get_or hs i no_head).stateid) 16 e)

pub whole_none : (hs : List ReportHead) (i : ℕ) → length hs ≤ i → stateids_whole (drop i hs) ≡ true
unfolding stateids_whole
whole_none hs i h = rw (drop_of_length-le hs h)

-- ---- one entry after the other

pub entries_next : (n : ℕ) (s : List ℕ) (at : ℕ) → 0 < n → entries_at n s at ≡ entry_here s at ∷ entries_at (n - 1) s (at + 24)
unfolding entries_at
entries_next zero s at h = absurd (omega arith)
entries_next (suc n) s at h = let e : suc n - 1 ≡ n = omega arith in rw e

pub length_entries : (n : ℕ) (s : List ℕ) (at : ℕ) → length (entries_at n s at) ≡ n
unfolding entries_at
length_entries zero s at = refl
length_entries (suc n) s at = ap suc (length_entries n s (at + 24))

-- the entries of a report, and those after them
pub take_entries : (m n : ℕ) (s : List ℕ) (at : ℕ) → take m (entries_at (m + n) s at) ≡ entries_at m s at
unfolding entries_at
take_entries zero n s at = refl
take_entries (suc m) n s at =
    let e : suc m + n ≡ suc (m + n) = omega arith in
    rw e (ap {B = List ErrorEntry} (λ es. entry_here s at ∷ es) (take_entries m n s (at + 24)))

pub drop_entries : (m n : ℕ) (s : List ℕ) (at : ℕ) → drop m (entries_at (m + n) s at) ≡ entries_at n s (at + 24 * m)
unfolding entries_at
drop_entries zero n s at =
    let e : 0 + n ≡ n = omega arith in
    let f : at + 24 * 0 ≡ at = omega arith in
    rw (e, f)
drop_entries (suc m) n s at =
    let e : suc m + n ≡ suc (m + n) = omega arith in
    let f : at + 24 * suc m ≡ at + 24 + 24 * m = omega arith in
    rw (e, f) (drop_entries m n s (at + 24))

-- ---- what is judged, step by step

pub fits_next : (n : ℕ) (s : List ℕ) (at status operation : ℕ) (t : Bool) → 0 < n
    → status ≡ be_at 4 s (at + 16) → operation ≡ be_at 4 s (at + 20) → t ≡ error_fits status operation
    → all_fit (entries_at n s at) ≡ (t && all_fit (entries_at (n - 1) s (at + 24)))
unfolding all_fit entry_here
fits_next n s at status operation t h a b e = rw (entries_next n s at h, ← a, ← b, ← e)

pub fits_none : (n : ℕ) (s : List ℕ) (at : ℕ) → n ≡ 0 → all_fit (entries_at n s at) ≡ true
unfolding all_fit entries_at
fits_none n s at h = rw h

-- the heads left, and the entries that they use
pub checked_next : (hs : List ReportHead) (i : ℕ) (s : List ℕ) (at : ℕ) → i < length hs
    → checked_reports (drop i hs) (entries_at (counts (drop i hs)) s at)
    ≡ given (checked_report (get_or hs i no_head) (entries_at (get_or hs i no_head).errors s at))
    (λ u. checked_reports (drop (i + 1) hs) (entries_at (counts (drop (i + 1) hs)) s (at + 24 * (get_or hs i no_head).errors)))
unfolding checked_reports counts
checked_next hs i s at h =
    let n = (get_or hs i no_head).errors in
    let c = counts (drop (suc i) hs) in
    rw (add-one i, drop-cons hs i no_head h, take_entries n c s at, drop_entries n c s at)

pub checked_none : (hs : List ReportHead) (i : ℕ) (es : List ErrorEntry) → length hs ≤ i → checked_reports (drop i hs) es ≡ accepted tt
unfolding checked_reports
checked_none hs i es h = rw (drop_of_length-le hs h)

pub reports_next : (hs : List ReportHead) (i : ℕ) (s : List ℕ) (at : ℕ) → i < length hs
    → reports_bytes (drop i hs) (entries_at (counts (drop i hs)) s at)
    ≡ head_bytes (get_or hs i no_head) ++ (errors_bytes (entries_at (get_or hs i no_head).errors s at)
    ++ reports_bytes (drop (i + 1) hs) (entries_at (counts (drop (i + 1) hs)) s (at + 24 * (get_or hs i no_head).errors)))
unfolding reports_bytes counts
reports_next hs i s at h =
    let n = (get_or hs i no_head).errors in
    let c = counts (drop (suc i) hs) in
    rw (add-one i, drop-cons hs i no_head h, take_entries n c s at, drop_entries n c s at)

pub reports_none : (hs : List ReportHead) (i : ℕ) (es : List ErrorEntry) → length hs ≤ i → reports_bytes (drop i hs) es ≡ []
unfolding reports_bytes
reports_none hs i es h = rw (drop_of_length-le hs h)

-- ---- what an allowed report says

pub record Allowed (h : ReportHead) (es : List ErrorEntry) : Type 0 where
  pub last : ℕ
  pub range : range_last h.offset h.length ≡ accepted last
  pub some : 1 ≤ h.errors
  pub few : h.errors ≤ 16
  pub fit : all_fit es ≡ true

pub allowed : (h : ReportHead) (es : List ErrorEntry) → checked_report h es ≡ accepted tt → Allowed h es
unfolding checked_report
allowed h es e =
    let a = given_inv _ _ _ e in
    let b = pick_accepted _ _ 8 _ a.rest in
    let c = both (leb 1 h.errors) (leb h.errors 16) b.0 in
    let d = pick_accepted (all_fit es) _ 27 _ b.1 in
    record { last = a.value; range = a.first; some = leb-true 1 h.errors c.0; few = leb-true h.errors 16 c.1; fit = d.0 }
