-- Laws of what is where something was read: an error, a run of errors, a head, a report, a run of reports.
use Prim.Native.Nat.{ℕ, zero, suc, ◌+◌, ◌*◌, ◌≤◌}
use mathlib.Core.Path.{◌≡◌, refl, sym, ap, ◌∙◌}
use mathlib.Core.List.{List, [], ◌∷◌, ◌++◌, map}
use mathlib.Core.Bool.{true}
use native.Mathlib.Omega.{arith}
use borrow.Author.Tests.{le-leb}
use lib.ListN.{length, take, drop, length-append}
use lib.Seq.{drop_at, take_at}
use Rattle.base.specs.Answer.{accepted, given, pick}
use Rattle.base.specs.Ranges.{range_last}
use Rattle.octets.specs.Numbers.{AllBytes, be_at, be_bytes, bytes_from}
use Rattle.octets.proofs.NumberLaws.{length_bytes}
use Rattle.octets.proofs.BytesAtLaws.{BytesAt, bytes_at_join}
use Rattle.xdr.specs.Items.{bytes_at, count_at, num_at, range_at}
use Rattle.xdr.specs.Parsed.{ok, many_at}
use Rattle.xdr.specs.declared.Part.{Part}
use Rattle.xdr.specs.declared.range.Range.{Range}
use Rattle.xdr.proofs.ItemLaws.{num_there}
use Rattle.xdr.proofs.Accepted.{bytes_read, count_read, moved, number_read, pick_inv, range_read, then_inv, same_value, same_offset}
use Rattle.xdr.proofs.ItemsAtLaws.{bytes_span, number_spans, spans_join}
use Rattle.report.specs.Reports.{error_at, error_fits, report_head_at, Report, report_at}
use Rattle.report.specs.declared.ErrorItem.{ErrorItem}
use Rattle.report.specs.declared.ReportHead.{ReportHead}
use Rattle.xdr.proofs.ManyLaws.{first_read, many_none}
use Rattle.report.specs.ReportOffsets.{entries_in}
use Rattle.report.specs.Writing.{all_fit, counts, ErrorEntry, errors_bytes, head_bytes, checked_reports, checked_report, entry_here, entries_at, reports_bytes}
use Rattle.report.proofs.EntryLaws.{length_entries}
use Rattle.report.proofs.StoringLaws.{length_errors, length_head, entries_back}

-- ---- an error

pub record ErrorBack (s : List ℕ) (at p : ℕ) : Type 0 where
  pub offset : p ≡ at + 24
  pub within : p ≤ length s
  pub fits : error_fits (entry_here s at).status (entry_here s at).operation ≡ true

num_at_lem : (k : ℕ) (s : List ℕ) (at v p : ℕ) → num_at k s at ≡ ok v p → v ≡ be_at k s at
num_at_lem k s at v p h = let g = number_read k s at v p h in same_value (sym h ∙ num_there k s at (omega (arith, g.end, g.within)))

error_parts : (s : List ℕ) (at : ℕ) (d : Part) (p1 st p2 op p3 : ℕ) → bytes_at 16 s at ≡ ok d p1 → num_at 4 s p1 ≡ ok st p2
    → num_at 4 s p2 ≡ ok op p3 → error_fits st op ≡ true → ErrorBack s at p3
unfolding entry_here
error_parts s at d p1 st p2 op p3 x y z f =
    let i = bytes_read 16 s at d p1 x in
    let j = number_read 4 s p1 st p2 y in
    let k = number_read 4 s p2 op p3 z in
    let e1 : p1 ≡ at + 16 = omega (arith, i.end) in
    let e2 : p2 ≡ at + 20 = omega (arith, i.end, j.end) in
    let e3 : p3 ≡ at + 24 = omega (arith, i.end, j.end, k.end) in
    let u : st ≡ be_at 4 s (at + 16) = num_at_lem 4 s p1 st p2 y ∙ ap (be_at 4 s) e1 in
    let v : op ≡ be_at 4 s (at + 20) = num_at_lem 4 s p2 op p3 z ∙ ap (be_at 4 s) e2 in
    record { offset = e3; within = k.within; fits = rw (← u, ← v) f }

pub error_back : (s : List ℕ) (at : ℕ) (e : ErrorItem) (p : ℕ) → error_at s at ≡ ok e p → ErrorBack s at p
unfolding error_at
error_back s at e p h =
    let x = then_inv _ _ _ _ h in
    let y = then_inv _ _ _ _ x.rest in
    let z = then_inv _ _ _ _ y.rest in
    let k = pick_inv (error_fits y.item z.item) _ 27 e p z.rest in
    rw (← same_offset k.chosen) (error_parts s at x.item x.next y.item y.next z.item z.next x.first y.first z.first k.test)

-- ---- a run of errors

pub record ErrorsBack (n : ℕ) (s : List ℕ) (at p : ℕ) : Type 0 where
  pub offset : p ≡ at + 24 * n
  pub within : p ≤ length s
  pub fits : all_fit (entries_at n s at) ≡ true

errors_more : (n : ℕ) (s : List ℕ) (at p q : ℕ) → ErrorBack s at p → ErrorsBack n s p q → ErrorsBack (suc n) s at q
unfolding entries_at all_fit
errors_more n s at p q x y =
    let y' : ErrorsBack n s (at + 24) q = rw x.offset at y in
    record { offset = omega (arith, y'.offset); within = y'.within; fits = rw x.fits y'.fits }

no_errors : (s : List ℕ) (at p : ℕ) → at ≤ length s → p ≡ at → ErrorsBack zero s at p
unfolding entries_at all_fit
no_errors s at p r e = record { offset = omega (arith, e); within = omega (arith, r, e); fits = refl }

pub errors_back : (n : ℕ) (s : List ℕ) (at : ℕ) (xs : List ErrorItem) (p : ℕ) → at ≤ length s → many_at error_at n s at ≡ ok xs p → ErrorsBack n s at p
unfolding many_at
errors_back zero s at xs p r h = none (same_offset h) where
  none : at ≡ p → ErrorsBack zero s at p
  none e = no_errors s at p r (sym e)
errors_back (suc n) s at xs p r h =
    let x = then_inv _ _ _ _ h in
    let y = then_inv _ _ _ _ x.rest in
    let f = error_back s at x.item x.next x.first in
    let g = errors_back n s x.next y.item y.next f.within y.first in
    rw (← same_offset y.rest) (errors_more n s at x.next y.next f g)

-- ---- a head

pub record HeadBack (h : ReportHead) (s : List ℕ) (at p : ℕ) : Type 0 where
  pub stands : BytesAt (head_bytes h) s at
  pub size : length (head_bytes h) ≡ 36
  pub offset : p ≡ at + 36
  pub last : ℕ
  pub range : range_last h.offset h.length ≡ accepted last
  pub some : 1 ≤ h.errors
  pub few : h.errors ≤ 16

abbrev head_with : ℕ → ℕ → List ℕ → ℕ → ReportHead
head_with offset len stateid errors = record { offset = offset; length = len; stateid = stateid; errors = errors }

head_parts : (s : List ℕ) (at : ℕ) (v : Range) (p1 : ℕ) (st : Part) (p2 n p3 : ℕ) → AllBytes s → range_at s at ≡ ok v p1
    → bytes_at 16 s p1 ≡ ok st p2 → count_at 1 16 s p2 ≡ ok n p3
    → HeadBack (head_with v.offset v.length (bytes_from 16 s st.start) n) s at p3
unfolding head_bytes
head_parts s at v p1 st p2 n p3 b f i j =
    let o = be_bytes 8 v.offset in
    let l = be_bytes 8 v.length in
    let z = bytes_from 16 s st.start in
    let e = be_bytes 4 n in
    let r = range_read s at v p1 f in
    let j' = count_read 1 16 s p2 n p3 j in
    let zs = bytes_span 16 s p1 st p2 refl i in
    let es = number_spans 4 s p2 n p3 b j'.read in
    let os = number_spans 8 s at v.offset (at + 8) b r.offset in
    let ls = number_spans 8 s (at + 8) v.length p1 b r.len in
    let all = spans_join o (l ++ (z ++ e)) s at (at + 8) p3 os (spans_join l (z ++ e) s (at + 8) p1 p3 ls (spans_join z e s p1 p2 p3 zs es)) in
    let i' = bytes_read 16 s p1 st p2 i in
    let begin = ap (λ (q : Part). q.start) i'.value in
    let z16 : length z ≡ 16 = length_bytes 16 s st.start (omega (arith, begin, i'.end, i'.within)) in
    let size = length_head (head_with v.offset v.length z n) z16 in
    record {
      stands = all.stands;
      size = size;
      offset = all.end ∙ ap (λ (k : ℕ). at + k) size;
      last = v.last;
      range = r.last;
      some = j'.low;
      few = j'.high;
    }

pub head_back : (s : List ℕ) (at : ℕ) (h : ReportHead) (p : ℕ) → AllBytes s → report_head_at s at ≡ ok h p → HeadBack h s at p
unfolding report_head_at
head_back s at h p b e =
    let r = then_inv _ _ _ _ e in
    let t = then_inv _ _ _ _ r.rest in
    let n = then_inv _ _ _ _ t.rest in
    moved (λ x q. HeadBack x s at q) _ h _ p n.rest
    (head_parts s at r.item r.next t.item t.next n.item n.next b r.first t.first n.first)

-- ---- reports

abbrev heads : List Report → List ReportHead
heads rs = map (λ (r : Report). r.head) rs

pub record ReportsBack (rs : List Report) (s : List ℕ) (at p : ℕ) : Type 0 where
  pub stands : BytesAt (reports_bytes (heads rs) (entries_in s rs)) s at
  pub offset : p ≡ at + length (reports_bytes (heads rs) (entries_in s rs))
  pub allowed : checked_reports (heads rs) (entries_in s rs) ≡ accepted tt
  pub sum : counts (heads rs) ≡ length (entries_in s rs)

checked_one : (h : ReportHead) (es : List ErrorEntry) (last : ℕ) → range_last h.offset h.length ≡ accepted last → 1 ≤ h.errors → h.errors ≤ 16
    → all_fit es ≡ true → checked_report h es ≡ accepted tt
unfolding checked_report given pick
checked_one h es last a b c d = rw (a, le-leb 1 h.errors b, le-leb h.errors 16 c, d)

no_reports : (s : List ℕ) (at p : ℕ) → at ≤ length s → p ≡ at → ReportsBack [] s at p
unfolding reports_bytes checked_reports counts entries_in
no_reports s at p r e = record { stands = record { room = omega (arith, r); same = refl }; offset = omega (arith, e); allowed = refl; sum = refl }

-- one report before those after it
reports_more : (h : ReportHead) (rs : List Report) (s : List ℕ) (at p1 p2 p3 : ℕ) → AllBytes s → HeadBack h s at p1 → ErrorsBack h.errors s p1 p2 → ReportsBack rs s p2 p3
    → ReportsBack (record { head = h; errors_offset = p1 } ∷ rs) s at p3
unfolding reports_bytes checked_reports counts entries_in given
reports_more h rs s at p1 p2 p3 i x y z =
    let xs = entries_at h.errors s p1 in
    let ys = entries_in s rs in
    let hs = heads rs in
    let n : length xs ≡ h.errors = length_entries h.errors s p1 in
    let t : take h.errors (xs ++ ys) ≡ xs = take_at xs ys h.errors n in
    let d : drop h.errors (xs ++ ys) ≡ ys = drop_at xs ys h.errors n in
    let r : p1 + 24 * h.errors ≤ length s = omega (arith, y.offset, y.within) in
    let m = length_errors h.errors s p1 r in
    let a = length-append (errors_bytes xs) (reports_bytes hs ys) in
    let b = length-append (head_bytes h) (errors_bytes xs ++ reports_bytes hs ys) in
    record {
      stands = rw (t, d)
          (bytes_at_join (head_bytes h) (errors_bytes xs ++ reports_bytes hs ys) s at p1 (omega (arith, x.offset, x.size)) x.stands
          (bytes_at_join (errors_bytes xs) (reports_bytes hs ys) s p1 p2 (omega (arith, y.offset, m)) (entries_back h.errors s p1 i r) z.stands));
      offset = rw (t, d) (omega (arith, a, b, x.offset, x.size, y.offset, m, z.offset));
      allowed = rw (t, d, checked_one h xs x.last x.range x.some x.few y.fits) z.allowed;
      sum = rw (length-append xs ys) (omega (arith, n, z.sum));
    }

report_parts : (s : List ℕ) (at : ℕ) (r : Report) (p : ℕ) → report_at s at ≡ ok r p
    → (h : ReportHead) × (p1 : ℕ) × (xs : List ErrorItem) × (report_head_at s at ≡ ok h p1) × (many_at error_at h.errors s p1 ≡ ok xs p) × (r ≡ record { head = h; errors_offset = p1 })
unfolding report_at
report_parts s at r p e =
    let a = then_inv _ _ _ _ e in
    let b = then_inv _ _ _ _ a.rest in
    (a.item, a.next, b.item, a.first, b.first ∙ ap (ok b.item) (same_offset b.rest), sym (same_value b.rest))

pub reports_back : (n : ℕ) (s : List ℕ) (at : ℕ) (rs : List Report) (p : ℕ) → AllBytes s → at ≤ length s → many_at report_at n s at ≡ ok rs p → ReportsBack rs s at p
reports_back zero s at rs p b r h = go rs p (sym (many_none report_at zero s at refl) ∙ h) where
  go : (rs : List Report) (p : ℕ) → ok [] at ≡ ok rs p → ReportsBack rs s at p
  go rs p e = rw (← same_value e, ← same_offset e) (no_reports s at at r refl)
reports_back (suc n) s at rs p b r h =
    let a = first_read report_at n s at rs p h in
    let c = report_parts s at a.head a.next a.first in
    let x = head_back s at c.0 c.1 b c.3 in
    let m : c.1 ≤ length s = omega (arith, x.stands.room, x.size, x.offset) in
    let y = errors_back c.0.errors s c.1 c.2 a.next m c.4 in
    let z = reports_back n s a.next a.others p b y.within a.rest in
    go rs a.head a.others (sym a.all) c.5 (reports_more c.0 a.others s at c.1 a.next p b x y z) where
      go : (rs : List Report) (r : Report) (qs : List Report) {r' : Report} → rs ≡ r ∷ qs → r ≡ r' → ReportsBack (r' ∷ qs) s at p → ReportsBack rs s at p
      go rs r qs e f w = rw (e, f) w
