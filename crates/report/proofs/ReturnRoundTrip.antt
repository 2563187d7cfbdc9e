-- The round trips: reading what was written gives the same reports and records, writing what was read gives the same bytes; and the body with
-- nothing in it.
use Prim.Native.Nat.{ℕ, ◌+◌, ◌≤◌, ◌<◌}
use mathlib.Core.Path.{◌≡◌, refl, sym, ap, ◌∙◌}
use mathlib.Core.List.{List, [], ◌++◌, map}
use mathlib.Core.Bool.{Bool, true, false}
use native.Mathlib.Omega.{arith}
use borrow.Author.Tests.{eqb-true, leb-true, eq-eqb, le-leb, lt-leb}
use lib.Dec.{eqb, leb}
use lib.ListN.{length, take, replicate, length-append, length-map, length-take}
use lib.Seq.{take_at}
use Rattle.base.specs.Answer.{Answer, accepted, refused, given, pick}
use Rattle.base.specs.Lists.{Each, padded}
use Rattle.base.proofs.AnswerLaws.{given_inv, pick_accepted, same_answer}
use Rattle.octets.specs.Numbers.{AllBytes, be_bytes, be_value, be_from}
use Rattle.octets.proofs.NumberLaws.{length_be}
use Rattle.octets.proofs.BytesAtLaws.{BytesAt, bytes_at_join, bytes_at_parts, bytes_at_whole, whole_stands}
use Rattle.xdr.specs.Items.{count_at, num_at}
use Rattle.xdr.specs.Parsed.{ok, then, whole, many_at}
use Rattle.xdr.proofs.Accepted.{Number, count_read, number_read, whole_read, then_inv, same_value, same_offset}
use Rattle.xdr.proofs.ManyLaws.{many_length}
use Rattle.xdr.proofs.ItemsAtLaws.{count_stands, num_back}
use Rattle.statistics.specs.Statistics.{statistics_at}
use Rattle.statistics.specs.StatisticBytes.{StatisticFits, cleared, statistics_bytes, statistics_part}
use Rattle.statistics.specs.StatisticChecks.{checked_statistics}
use Rattle.statistics.specs.declared.Statistic.{Statistic}
use Rattle.statistics.proofs.StatisticBack.{part_back}
use Rattle.statistics.proofs.StatisticStands.{part_stands}
use Rattle.report.specs.Reports.{LayoutReturn, Report, report_at, reports_at, return_body}
use Rattle.report.specs.Answers.{statistic_entries, heads_of}
use Rattle.report.specs.declared.Outgoing.{Outgoing}
use Rattle.report.specs.declared.ReportHead.{ReportHead}
use Rattle.report.proofs.ReportLaws.{body_accepted, reports_accepted}
use Rattle.report.specs.ReportOffsets.{HeadFits, reports_from, EntryFits, entries_in, outgoing_of, sent}
use Rattle.report.specs.Writing.{body_bytes, body_written, counts, ErrorEntry, fitted, checked_reports, reports_bytes, return_written}
use Rattle.report.proofs.ReadBack.{reports_back}
use Rattle.report.proofs.WrittenLaws.{entries_from, reports_stand}

-- ---- a layout return by what follows its reports

pub too_many_refused : (o : Outgoing) (es : List ErrorEntry) (room : ℕ) → 8 < o.statistic_count → return_written o es room ≡ refused 8
unfolding return_written pick
too_many_refused o es room h = rw (lt-leb _ _ h) (go (leb o.count 8) (eqb (counts (take o.count o.heads)) (length es))) where
  go : (a b : Bool) → ◌≡◌ {A = Answer (List ℕ)} (pick a (pick b (refused 8) (refused 8)) (refused 8)) (refused 8)
  go true true = refl
  go true false = refl
  go false b = refl

pub return_by_body : (o : Outgoing) (es : List ErrorEntry) (room : ℕ) → o.statistic_count ≤ 8
    → return_written o es room ≡ body_written o.count o.heads es (checked_statistics (sent o)) (statistics_part (sent o)) room
unfolding return_written body_written pick
return_by_body o es room h = rw (le-leb _ _ h)

-- ---- what an accepted writing says

pub record Wrote (count : ℕ) (hs : List ReportHead) (es : List ErrorEntry) (k : Answer (Unit {0})) (z bs : List ℕ) : Type 0 where
  pub few : count ≤ 8
  pub sum : counts hs ≡ length es
  pub allowed : checked_reports hs es ≡ accepted tt
  pub checked : k ≡ accepted tt
  pub bytes : body_bytes hs es z ≡ bs

pub wrote : (count : ℕ) (heads : List ReportHead) (es : List ErrorEntry) (k : Answer (Unit {0})) (z : List ℕ) (room : ℕ) (bs : List ℕ)
    → body_written count heads es k z room ≡ accepted bs → Wrote count (take count heads) es k z bs
unfolding body_written fitted
wrote count heads es k z room bs h =
    let a = pick_accepted (leb count 8) _ 8 bs h in
    let b = pick_accepted (eqb (counts (take count heads)) (length es)) _ 8 bs a.1 in
    let c = given_inv _ _ bs b.1 in
    let d = given_inv k _ bs c.rest in
    let e = pick_accepted _ _ 26 bs d.rest in
    record {
      few = leb-true count 8 a.0;
      sum = eqb-true (counts (take count heads)) (length es) b.0;
      allowed = c.first;
      checked = d.first;
      bytes = same_answer e.1;
    }

-- the two halves of what was written: the reports, as they are read, and what follows them
pub record Halves (hs : List ReportHead) (es : List ErrorEntry) (z bs : List ℕ) : Type 0 where
  pub reports : BytesAt (reports_bytes hs es) bs 4
  pub read : reports_at bs 0 ≡ ok (reports_from hs 4) (4 + length (reports_bytes hs es))
  pub rest : BytesAt z bs (4 + length (reports_bytes hs es))
  pub size : 4 + length (reports_bytes hs es) + length z ≡ length bs

pub halves : (count : ℕ) (heads : List ReportHead) (es : List ErrorEntry) (k : Answer (Unit {0})) (z : List ℕ) (room : ℕ) (bs : List ℕ)
    → Each HeadFits (take count heads) → Each EntryFits es → body_written count heads es k z room ≡ accepted bs → Halves (take count heads) es z bs
unfolding body_bytes
halves count heads es k z room bs f g h =
    let w = wrote count heads es k z room bs h in
    let hs = take count heads in
    let n = length_be 4 (length hs) in
    let m : length hs ≤ 8 = rw (length-take count heads) (omega (arith, w.few)) in
    let all : BytesAt (body_bytes hs es z) bs 0 = rw w.bytes (bytes_at_whole bs) in
    let a = bytes_at_parts (be_bytes 4 (length hs)) (reports_bytes hs es ++ z) bs 0 all in
    let b = bytes_at_parts (reports_bytes hs es) z bs (0 + length (be_bytes 4 (length hs))) a.1 in
    let p : 0 + length (be_bytes 4 (length hs)) ≡ 4 = omega (arith, n) in
    let q : 0 + length (be_bytes 4 (length hs)) + length (reports_bytes hs es) ≡ 4 + length (reports_bytes hs es) = omega (arith, n) in
    let r : BytesAt (reports_bytes hs es) bs 4 = rw p at b.0 in
    let c1 = count_stands 0 8 (length hs) bs 0 (omega arith) m (omega (arith, m)) a.0 in
    let c2 = reports_stand hs es bs 4 f g w.allowed w.sum r in
    record {
      reports = r;
      read = reports_accepted bs 0 (length hs) (0 + 4) (reports_from hs 4) _ c1 c2;
      rest = rw q at b.1;
      size = sym (ap length (sym w.bytes) ∙ length-append (be_bytes 4 (length hs)) (reports_bytes hs es ++ z)
          ∙ ap (λ (i : ℕ). length (be_bytes 4 (length hs)) + i) (length-append (reports_bytes hs es) z) ∙ omega (arith, n));
    }

few_sent : (o : Outgoing) (es : List ErrorEntry) (room : ℕ) (bs : List ℕ) → return_written o es room ≡ accepted bs → o.statistic_count ≤ 8
unfolding return_written
few_sent o es room bs h =
    let a = pick_accepted (leb o.count 8) _ 8 bs h in
    let b = pick_accepted (eqb (counts (take o.count o.heads)) (length es)) _ 8 bs a.1 in
    leb-true o.statistic_count 8 (pick_accepted (leb o.statistic_count 8) _ 8 bs b.1).0

-- Reading what was written gives the same reports and records, spare bytes aside, and the same errors are at their offsets.
pub reading_what_was_written : (o : Outgoing) (es : List ErrorEntry) (room : ℕ) (bs : List ℕ)
    → Each HeadFits (take o.count o.heads) → Each EntryFits es → Each StatisticFits (sent o) → return_written o es room ≡ accepted bs
    → (return_body bs ≡ accepted (record { reports = reports_from (take o.count o.heads) 4; statistics = map cleared (sent o) }))
    × (entries_in bs (reports_from (take o.count o.heads) 4) ≡ es)
reading_what_was_written o es room bs f g u h =
    let n = few_sent o es room bs h in
    let b = sym (return_by_body o es room n) ∙ h in
    let k = checked_statistics (sent o) in
    let z = statistics_part (sent o) in
    let w = wrote o.count o.heads es k z room bs b in
    let x = halves o.count o.heads es k z room bs f g b in
    let hs = take o.count o.heads in
    let m : length (sent o) ≤ 8 = rw (length-take o.statistic_count o.statistics) (omega (arith, n)) in
    let c = part_stands (sent o) bs (4 + length (reports_bytes hs es)) m u w.checked x.rest in
    (body_accepted bs (reports_from hs 4) _ (map cleared (sent o)) _ x.read c x.size, entries_from hs es bs 4 f g w.sum x.reports)

-- ---- what an accepted reading says

pub record ReadReports (bs : List ℕ) (rs : List Report) (q : ℕ) : Type 0 where
  pub few : length rs ≤ 8
  pub count : num_at 4 bs 0 ≡ ok (length rs) 4
  pub reports : many_at report_at (length rs) bs 4 ≡ ok rs q

read_parts : (bs : List ℕ) (rs : List Report) (n p q : ℕ) → count_at 0 8 bs 0 ≡ ok n p → many_at report_at n bs p ≡ ok rs q → ReadReports bs rs q
read_parts bs rs n p q a b =
    let a' = count_read 0 8 bs 0 n p a in
    let m : n ≡ length rs = sym (many_length report_at n bs p rs q b) in
    let p4 : p ≡ 4 = omega (arith, a'.number.end) in
    record { few = omega (arith, m, a'.high); count = rw (m, p4) at a'.read; reports = rw (m, p4) at b }

pub read_reports : (bs : List ℕ) (rs : List Report) (q : ℕ) → reports_at bs 0 ≡ ok rs q → ReadReports bs rs q
unfolding reports_at
read_reports bs rs q h = let a = then_inv _ _ _ _ h in read_parts bs rs a.item a.next q a.first a.rest

pub record ReadAll (bs : List ℕ) (r : LayoutReturn) : Type 0 where
  pub offset : ℕ
  pub reports : ReadReports bs r.reports offset
  pub statistics : statistics_at bs offset ≡ ok r.statistics (length bs)

read_halves : (bs : List ℕ) (r : LayoutReturn) (rs : List Report) (q : ℕ) (st : List Statistic) (z : ℕ) → reports_at bs 0 ≡ ok rs q → statistics_at bs q ≡ ok st z
    → ok (record { reports = rs; statistics = st }) z ≡ ok r (length bs) → ReadAll bs r
read_halves bs r rs q st z a c d =
    let e : rs ≡ r.reports = ap (λ (x : LayoutReturn). x.reports) (same_value d) in
    let f : st ≡ r.statistics = ap (λ (x : LayoutReturn). x.statistics) (same_value d) in
    let g : z ≡ length bs = same_offset d in
    record { offset = q; reports = read_reports bs r.reports q (rw e at a); statistics = rw (f, g) at c }

pub read_all : (bs : List ℕ) (r : LayoutReturn) → return_body bs ≡ accepted r → ReadAll bs r
unfolding return_body
read_all bs r h =
    let a = then_inv _ _ _ _ (whole_read bs _ r h) in
    let b = then_inv _ _ _ _ a.rest in
    read_halves bs r a.item a.next b.item b.next a.first b.first b.rest

body_back : (bs : List ℕ) (hs : List ReportHead) (es : List ErrorEntry) (z : List ℕ) (n q : ℕ) → AllBytes bs → length hs ≡ n → Number 4 bs 0 n 4
    → BytesAt (reports_bytes hs es) bs 4 → q ≡ 4 + length (reports_bytes hs es) → BytesAt z bs q → q + length z ≡ length bs → body_bytes hs es z ≡ bs
unfolding body_bytes
body_back bs hs es z n q b e c w p v l =
    let n4 = length_be 4 (length hs) in
    let first = num_back 4 bs 0 (length hs) 4 b (rw (← e) at c) in
    let all = bytes_at_join (be_bytes 4 (length hs)) (reports_bytes hs es ++ z) bs 0 4 (omega (arith, n4)) first (bytes_at_join (reports_bytes hs es) z bs 4 q p w v) in
    let s = length-append (be_bytes 4 (length hs)) (reports_bytes hs es ++ z) in
    let t = length-append (reports_bytes hs es) z in
    whole_stands _ bs all (omega (arith, s, t, n4, p, l))

-- Writing what was read gives the same bytes.
pub writing_what_was_read : (bs : List ℕ) (r : LayoutReturn) (room : ℕ) → AllBytes bs → length bs ≤ room → return_body bs ≡ accepted r
    → return_written (outgoing_of r) (entries_in bs r.reports) room ≡ accepted bs
unfolding return_written fitted padded pick given
writing_what_was_read bs r room b l h =
    let a = read_all bs r h in
    let rs = r.reports in
    let st = r.statistics in
    let hs = map (λ (x : Report). x.head) rs in
    let n = length-map rs (λ (x : Report). x.head) in
    let t : take (length rs) (heads_of rs) ≡ hs = take_at hs _ (length rs) n in
    let u : take (length st) (statistic_entries st) ≡ st = take_at st _ (length st) refl in
    let x = a.reports in
    let c = number_read 4 bs 0 (length rs) 4 x.count in
    let w = reports_back (length rs) bs 4 rs a.offset b c.within x.reports in
    let v = part_back bs a.offset st (length bs) b a.statistics in
    let e : body_bytes hs (entries_in bs rs) (statistics_part st) ≡ bs =
    body_back bs hs (entries_in bs rs) (statistics_part st) (length rs) a.offset b n c w.stands w.offset v.stands (sym v.offset) in
    rw (
      le-leb (length rs) 8 x.few,
      t,
      eq-eqb _ _ w.sum,
      le-leb (length st) 8 v.few,
      w.allowed,
      u,
      v.allowed,
      e,
      le-leb (length bs) room l,
    )

-- ---- "Report body with nothing in it: eight zero bytes."

pub nothing_written : (heads : List ReportHead) (statistics : List Statistic) (room : ℕ) → 8 ≤ room
    → return_written (record { count = 0; heads = heads; statistic_count = 0; statistics = statistics }) [] room ≡ accepted (replicate 8 0)
unfolding return_written fitted pick given checked_reports checked_statistics counts body_bytes reports_bytes statistics_part statistics_bytes be_bytes
nothing_written heads statistics room h = rw (le-leb 8 room h)

pub nothing_read : return_body (replicate 8 0) ≡ accepted (record { reports = []; statistics = [] })
unfolding return_body reports_at statistics_at whole then count_at num_at many_at pick be_value be_from
nothing_read = refl
