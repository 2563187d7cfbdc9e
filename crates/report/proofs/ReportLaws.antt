-- Laws of reports: the arrays that are filled report by report, and what an accepted report says of its stateid.
use Prim.Native.Nat.{ℕ, ◌+◌, ◌-◌, ◌≤◌, ◌<◌}
use mathlib.Core.Path.{◌≡◌, refl, sym, ap, ◌∙◌}
use mathlib.Core.List.{List, [], ◌∷◌, ◌++◌, append-nil, map, map-append}
use native.Mathlib.Omega.{arith}
use borrow.Author.Tests.{eq-eqb, ne_eqb}
use lib.ListN.{length, set, length-map, length-take, length-drop}
use lib.Seq.{append_snoc}
use Rattle.base.specs.Answer.{Answer, accepted, refused, given, pick}
use Rattle.base.specs.Lists.{length_of, members_in}
use Rattle.base.proofs.AnswerLaws.{given_inv, given_refused, same_answer}
use Rattle.base.proofs.ListLaws.{padded_next}
use Rattle.octets.specs.Numbers.{bytes_from}
use Rattle.octets.proofs.NumberLaws.{length_bytes}
use Rattle.xdr.specs.Parsed.{Parsed, ok, fault, then, whole, many_at, end_of}
use Rattle.xdr.specs.Items.{count_at}
use Rattle.xdr.specs.declared.Part.{Part}
use Rattle.xdr.proofs.Accepted.{bytes_read, then_inv, same_value, same_offset}
use Rattle.xdr.proofs.EndLaws.{end_goes_on}
use Rattle.xdr.proofs.ManyLaws.{first_then, none_then, refused_then}
use Rattle.statistics.specs.Statistics.{statistics_at}
use Rattle.statistics.specs.declared.Statistic.{Statistic}
use Rattle.report.specs.Reports.{LayoutReturn, error_at, report_head_at, Report, report_at, report_body, reports_at, return_body, statistics_body}
use Rattle.report.specs.Answers.{arrays_from, blank_head, statistic_entries, head_from, heads_of, offsets_of}
use Rattle.report.specs.declared.ReportHead.{ReportHead}
use Rattle.report.specs.declared.head.HeadItem.{HeadItem}

-- ---- where a report's errors end

abbrev reported : ReportHead → ℕ → ℕ → Parsed Report
reported h p q = ok (record { head = h; errors_offset = p }) q

-- a report by the offset where its errors end
pub report_ends : (s : List ℕ) (at : ℕ)
    → report_at s at ≡ then (report_head_at s at) (λ h p. then (end_of (many_at error_at h.errors s p)) λ u q. reported h p q)
unfolding report_at then
report_ends s at = go (report_head_at s at) where
  go : (x : Parsed ReportHead)
      → then x (λ h p. then (many_at error_at h.errors s p) λ es q. reported h p q)
      ≡ then x (λ h p. then (end_of (many_at error_at h.errors s p)) λ u q. reported h p q)
  go (ok h p) = sym (end_goes_on (many_at error_at h.errors s p) (λ q. reported h p q))
  go (fault n) = refl

-- ---- the arrays

pub heads_next : (done : List Report) (i : ℕ) (r : Report) → length done ≡ i → i < 8
    → set (heads_of done) i r.head ≡ heads_of (done ++ (r ∷ []))
heads_next done i r h k =
    let f : Report → ReportHead = λ r. r.head in
    let n : length (map f done) ≡ i = length-map done f ∙ h in
    rw (map-append f done (r ∷ [])) (padded_next 8 blank_head (map f done) i r.head n k)

pub places_next : (done : List Report) (i : ℕ) (r : Report) → length done ≡ i → i < 8
    → set (offsets_of done) i r.errors_offset ≡ offsets_of (done ++ (r ∷ []))
places_next done i r h k =
    let f : Report → ℕ = λ r. r.errors_offset in
    let n : length (map f done) ≡ i = length-map done f ∙ h in
    rw (map-append f done (r ∷ [])) (padded_next 8 0 (map f done) i r.errors_offset n k)

abbrev arrays : List Report → ℕ → Parsed (ℕ × (List ReportHead × List ℕ))
arrays rs q = ok (length rs, (heads_of rs, offsets_of rs)) q

pub arrays_next : (done : List Report) (m : ℕ) (s : List ℕ) (at : ℕ) (r : Report) (p : ℕ) → 0 < m → report_at s at ≡ ok r p
    → arrays_from done (many_at report_at m s at) ≡ arrays_from (done ++ (r ∷ [])) (many_at report_at (m - 1) s p)
unfolding arrays_from
arrays_next done m s at r p h e = simp append_snoc (first_then report_at m s at _ r p h e)

pub arrays_refused : (done : List Report) (m : ℕ) (s : List ℕ) (at n : ℕ) → 0 < m → report_at s at ≡ fault n
    → arrays_from done (many_at report_at m s at) ≡ fault n
unfolding arrays_from
arrays_refused done m s at n h e = refused_then report_at m s at _ n h e

pub arrays_done : (done : List Report) (m : ℕ) (s : List ℕ) (at : ℕ) → m ≡ 0
    → arrays_from done (many_at report_at m s at) ≡ ok (length done, (heads_of done, offsets_of done)) at
unfolding arrays_from
arrays_done done m s at h = rw (none_then report_at m s at _ h, append-nil done)

pub count_no_arrays : (s : List ℕ) (at n : ℕ) → count_at 0 8 s at ≡ fault n → arrays_from [] (reports_at s at) ≡ fault n
unfolding arrays_from reports_at then
count_no_arrays s at n e = rw e

pub arrays_no : (x : Parsed (List Report)) (n : ℕ) → arrays_from [] x ≡ fault n → x ≡ fault n
unfolding arrays_from then
arrays_no (ok rs p) n h = let z : ◌≡◌ {A = ℕ} 0 1 = cc in absurd (omega arith)
arrays_no (fault k) n h = let e : k ≡ n = cc in rw e

pub record Arrays (x : Parsed (List Report)) (n : ℕ) (hs : List ReportHead) (ps : List ℕ) (p : ℕ) : Type 0 where
  pub reports : List Report
  pub were : x ≡ ok reports p
  pub count : n ≡ length reports
  pub heads : hs ≡ heads_of reports
  pub offsets : ps ≡ offsets_of reports

pub arrays_ok : (x : Parsed (List Report)) (n : ℕ) (hs : List ReportHead) (ps : List ℕ) (p : ℕ) → arrays_from [] x ≡ ok (n, (hs, ps)) p → Arrays x n hs ps p
unfolding arrays_from then
arrays_ok (ok rs q) n hs ps p h =
    let e : ◌≡◌ {A = ℕ × (List ReportHead × List ℕ)} (length rs, (heads_of rs, offsets_of rs)) (n, (hs, ps)) = same_value h in
    record {
      reports = rs;
      were = ap (ok rs) (same_offset h);
      count = sym (ap (λ (x : ℕ × (List ReportHead × List ℕ)). x.0) e);
      heads = sym (ap (λ (x : ℕ × (List ReportHead × List ℕ)). x.1.0) e);
      offsets = sym (ap (λ (x : ℕ × (List ReportHead × List ℕ)). x.1.1) e);
    }
arrays_ok (fault k) n hs ps p h = let z : ◌≡◌ {A = ℕ} 0 1 = cc in absurd (omega arith)

-- ---- the whole answer, by what the body is

pub length_no : (b : Answer (List Report)) (n : ℕ) → b ≡ refused n → refused n ≡ length_of b
unfolding length_of given
length_no b n e = rw e

pub length_refused : {A : Type 0} (a : Answer (List A)) (n : ℕ) → refused n ≡ length_of a → a ≡ refused n
unfolding length_of
length_refused a n e = given_refused a _ n (sym e)

pub answer_refused : (b : Answer (List Report)) (n : ℕ) (a : Answer ℕ) (hs : List ReportHead) (ps : List ℕ) → b ≡ refused n
    → (a ≡ refused n) × (hs ≡ heads_of []) × (ps ≡ offsets_of [])
    → (a ≡ length_of b) × (hs ≡ heads_of (members_in b)) × (ps ≡ offsets_of (members_in b))
unfolding length_of given
answer_refused b n a hs ps e k = rw e k

pub answer_accepted : (b : Answer (List Report)) (rs : List Report) (a : Answer ℕ) (hs : List ReportHead) (ps : List ℕ) → b ≡ accepted rs
    → (a ≡ accepted (length rs)) × (hs ≡ heads_of rs) × (ps ≡ offsets_of rs)
    → (a ≡ length_of b) × (hs ≡ heads_of (members_in b)) × (ps ≡ offsets_of (members_in b))
unfolding length_of given
answer_accepted b rs a hs ps e k = rw e k

pub statistics_answer_refused : (b : Answer (List Statistic)) (n : ℕ) (a : Answer ℕ) (es : List Statistic) → b ≡ refused n
    → (a ≡ refused n) × (es ≡ statistic_entries []) → (a ≡ length_of b) × (es ≡ statistic_entries (members_in b))
unfolding length_of given
statistics_answer_refused b n a es e k = rw e k

pub statistics_answer_accepted : (b : Answer (List Statistic)) (rs : List Statistic) (a : Answer ℕ) (es : List Statistic) → b ≡ accepted rs
    → (a ≡ accepted (length rs)) × (es ≡ statistic_entries rs) → (a ≡ length_of b) × (es ≡ statistic_entries (members_in b))
unfolding length_of given
statistics_answer_accepted b rs a es e k = rw e k

-- ---- the body by its two halves

pub reports_begun : (s : List ℕ) (at n p : ℕ) → count_at 0 8 s at ≡ ok n p → reports_at s at ≡ many_at report_at n s p
unfolding reports_at then
reports_begun s at n p e = rw e

pub count_refused : (s : List ℕ) (at n : ℕ) → count_at 0 8 s at ≡ fault n → end_of (reports_at s at) ≡ fault n
unfolding reports_at then end_of
count_refused s at n e = rw e

pub reports_accepted : (s : List ℕ) (at n p : ℕ) (rs : List Report) (q : ℕ) → count_at 0 8 s at ≡ ok n p → many_at report_at n s p ≡ ok rs q → reports_at s at ≡ ok rs q
unfolding reports_at then
reports_accepted s at n p rs q a b = rw (a, b)

module _ (s : List ℕ) where
  pub reports_refuse : (n : ℕ) → reports_at s 0 ≡ fault n → return_body s ≡ refused n
  unfolding return_body then whole
  reports_refuse n e = rw e

  pub statistics_refuse : (rs : List Report) (q n : ℕ) → reports_at s 0 ≡ ok rs q → statistics_at s q ≡ fault n → return_body s ≡ refused n
  unfolding return_body then whole
  statistics_refuse rs q n e f = rw (e, f)

  module _ (rs : List Report) (q : ℕ) (st : List Statistic) (z : ℕ) (e : reports_at s 0 ≡ ok rs q) (f : statistics_at s q ≡ ok st z) where
    pub bytes_left_over : (z ≡ length s → ⊥) → return_body s ≡ refused 2
    unfolding return_body then whole pick
    bytes_left_over h = rw (e, f, ne_eqb z (length s) h)

    pub body_accepted : z ≡ length s → return_body s ≡ accepted (record { reports = rs; statistics = st })
    unfolding return_body then whole pick
    body_accepted h = rw (e, f, eq-eqb z (length s) h)

-- each half alone
pub reports_of_refused : (s : List ℕ) (n : ℕ) → return_body s ≡ refused n → report_body s ≡ refused n
unfolding report_body given
reports_of_refused s n e = rw e

pub reports_of : (s : List ℕ) (r : LayoutReturn) → return_body s ≡ accepted r → report_body s ≡ accepted r.reports
unfolding report_body given
reports_of s r e = rw e

pub statistics_of_refused : (s : List ℕ) (n : ℕ) → return_body s ≡ refused n → statistics_body s ≡ refused n
unfolding statistics_body given
statistics_of_refused s n e = rw e

pub statistics_of : (s : List ℕ) (r : LayoutReturn) → return_body s ≡ accepted r → statistics_body s ≡ accepted r.statistics
unfolding statistics_body given
statistics_of s r e = rw e

-- both halves where one is accepted
pub return_of_reports : (s : List ℕ) (rs : List Report) → report_body s ≡ accepted rs → (r : LayoutReturn) × (return_body s ≡ accepted r) × (r.reports ≡ rs)
unfolding report_body
return_of_reports s rs e = let a = given_inv _ _ _ e in (a.value, a.first, same_answer a.rest)

-- ---- an accepted report has a stateid of 16 bytes

pub head_stateid : (s : List ℕ) (at : ℕ) (h : ReportHead) (p : ℕ) → report_head_at s at ≡ ok h p → length h.stateid ≡ 16
unfolding report_head_at
head_stateid s at h p e =
    let a = then_inv _ _ _ _ e in
    let d = then_inv _ _ _ _ a.rest in
    let f = then_inv _ _ _ _ d.rest in
    let k : h.stateid ≡ bytes_from 16 s d.item.start = ap (λ (x : ReportHead). x.stateid) (sym (same_value f.rest)) in
    let w = bytes_read 16 s _ _ _ d.first in
    let i = ap (λ (x : Part). x.start) w.value in
    ap length k ∙ length_bytes 16 s d.item.start (omega (arith, w.end, w.within, i))

pub report_stateid : (s : List ℕ) (at : ℕ) (r : Report) (p : ℕ) → report_at s at ≡ ok r p → length r.head.stateid ≡ 16
unfolding report_at
report_stateid s at r p e =
    let a = then_inv _ _ _ _ e in
    let b = then_inv _ _ _ _ a.rest in
    let k : a.item ≡ r.head = ap (λ (x : Report). x.head) (same_value b.rest) in
    ap (λ (h : ReportHead). length h.stateid) (sym k) ∙ head_stateid s at _ _ a.first

-- so a stateid that is in the bytes is there whole
pub stateid_inside : (s : List ℕ) (at first : ℕ) (h : HeadItem) (p : ℕ)
    → report_at s at ≡ ok (record { head = head_from s h; errors_offset = first }) p → h.stateid + 16 ≤ length s
stateid_inside s at first h p e =
    let n : length (bytes_from 16 s h.stateid) ≡ 16 = report_stateid s at _ p e in
    let m = simp (length-take, length-drop) at n in
    omega (arith, m)
