-- The sizes of accepted bodies: at least 80 bytes of a layout body and 108 of a layout4; of a layout return exactly what its reports, errors and records come to.
use Prim.Native.Nat.{ℕ, zero, suc, ◌+◌, ◌-◌, ◌*◌, ◌≤◌}
use mathlib.Core.Path.{◌≡◌, ap}
use mathlib.Core.List.{List, [], ◌∷◌, map}
use native.Mathlib.Omega.{arith}
use borrow.Author.Tests.{leb-true}
use lib.ListN.{length, length-append}
use Rattle.base.specs.Answer.{accepted}
use Rattle.octets.specs.Numbers.{AllBytes, be_bytes, bytes_from}
use Rattle.octets.proofs.NumberLaws.{length_be, length_bytes}
use Rattle.xdr.specs.Parsed.{ok, many_at}
use Rattle.xdr.specs.Items.{opaque_at, padding, range_at}
use Rattle.xdr.specs.declared.Part.{Part}
use Rattle.xdr.proofs.Accepted.{bytes_read, count_read, item_accepted, number_read, opaque_read, pick_inv, range_read, then_inv, same_offset, same_value, whole_read}
use Rattle.xdr.proofs.ManyLaws.{many_exact, many_least}
use Rattle.server.specs.Servers.{handles_at, server_at}
use Rattle.server.specs.declared.item.Server.{Server}
use Rattle.server.proofs.ServerLaws.{head_read}
use Rattle.layout.specs.Layouts.{Layout, front_at, layout_body, mirror_at, mirrors_at, tail_at}
use Rattle.layout.specs.declared.front_and_tail.Front.{Front}
use Rattle.layout.specs.declared.front_and_tail.Tail.{Tail}
use Rattle.layout.proofs.LayoutLaws.{accepted_parts}
use Rattle.layout4.specs.Layout4s.{WholeLayout, frame_at, layout4, layout4_at}
use Rattle.layout4.specs.declared.frame.Frame.{Frame}
use Rattle.xdr.specs.declared.range.Range.{Range}
use Rattle.base.specs.Lists.{Each}
use Rattle.base.proofs.AnswerLaws.{given_inv}
use Rattle.statistics.specs.StatisticBytes.{StatisticFits, statistic_bytes, statistics_bytes, statistics_part}
use Rattle.statistics.specs.StatisticChecks.{checked_statistics}
use Rattle.statistics.proofs.StatisticLaws.{length_statistic}
use Rattle.statistics.specs.declared.Statistic.{Statistic}
use Rattle.statistics.proofs.StatisticBack.{part_back}
use Rattle.report.specs.Reports.{LayoutReturn, Report, error_at, report_head_at, report_at, return_body}
use Rattle.report.specs.declared.ErrorItem.{ErrorItem}
use Rattle.report.specs.declared.ReportHead.{ReportHead}
use Rattle.report.specs.Writing.{counts}
use Rattle.report.proofs.ReturnRoundTrip.{read_all}

-- ---- the layout body

opaque_least : (lo hi : ℕ) (s : List ℕ) (at : ℕ) (v : Part) (p : ℕ) → opaque_at lo hi s at ≡ ok v p → at + 4 + lo ≤ p
opaque_least lo hi s at v p e =
    let r = opaque_read lo hi s at v p e in
    omega (arith, r.count.low, r.bytes.end)

-- a filehandle has at least one byte, and its padding
handle_least : (s : List ℕ) (at : ℕ) (v : Part) (p : ℕ) → opaque_at 1 128 s at ≡ ok v p → at + 8 ≤ p
handle_least s at v p e =
    let r = opaque_read 1 128 s at v p e in
    omega (arith, r.count.low, r.bytes.end)

server_least : (s : List ℕ) (at : ℕ) (v : Server) (p : ℕ) → server_at s at ≡ ok v p → at + 56 ≤ p
unfolding server_at handles_at
server_least s at v p h =
    let d = then_inv _ _ v p h in
    let k = head_read s at d.item d.next d.first in
    let n = then_inv _ _ v p d.rest in
    let u = then_inv _ _ v p n.rest in
    let g = then_inv _ _ v p u.rest in
    let hs = many_least (opaque_at 1 128) 8 s (handle_least s) d.item.handles d.next n.item n.next n.first in
    let us = opaque_least 0 64 s n.next u.item u.next u.first in
    let gs = opaque_least 0 64 s u.next g.item g.next g.first in
    let f : g.next ≡ p = same_offset g.rest in
    omega (arith, k.end, k.some, hs, us, gs, f)

front_size : (s : List ℕ) (at : ℕ) (v : Front) (p : ℕ) → front_at s at ≡ ok v p → (p ≡ at + 16) × (1 ≤ v.servers)
unfolding front_at
front_size s at v p h =
    let u = then_inv _ _ v p h in
    let m = then_inv _ _ v p u.rest in
    let n = then_inv _ _ v p m.rest in
    let t = pick_inv _ _ 10 v p n.rest in
    let un = number_read 8 s at u.item u.next u.first in
    let mn = count_read 1 8 s u.next m.item m.next m.first in
    let nn = count_read 1 16 s m.next n.item n.next n.first in
    let e : n.item ≡ v.servers = ap (λ (x : Front). x.servers) (same_value t.chosen) in
    let f : n.next ≡ p = same_offset t.chosen in
    (omega (arith, un.end, mn.number.end, nn.number.end, f), omega (arith, nn.low, e))

tail_size : (s : List ℕ) (at : ℕ) (v : Tail) (p : ℕ) → tail_at s at ≡ ok v p → p ≡ at + 8
unfolding tail_at
tail_size s at v p h =
    let f = then_inv _ _ v p h in
    let t = pick_inv _ _ 11 v p f.rest in
    let n = then_inv _ _ v p t.chosen in
    let fn = number_read 4 s at f.item f.next f.first in
    let hn = number_read 4 s f.next n.item n.next n.first in
    let e : n.next ≡ p = same_offset n.rest in
    omega (arith, fn.end, hn.end, e)

-- a mirror after the first takes some bytes
mirror_least : (n : ℕ) (s : List ℕ) (at : ℕ) (m : List Server) (p : ℕ) → mirror_at n s at ≡ ok m p → at + 0 ≤ p
unfolding mirror_at
mirror_least n s at m p h =
    let c = then_inv _ _ m p h in
    let t = pick_inv _ _ 9 m p c.rest in
    let k = count_read 1 16 s at c.item c.next c.first in
    omega (arith, k.number.end, many_least server_at 56 s (server_least s) n c.next m p t.chosen)

mirrors_least : (mirrors servers : ℕ) (s : List ℕ) (at : ℕ) (ms : List (List Server)) (p : ℕ) → mirrors_at mirrors servers s at ≡ ok ms p
    → at + servers * 56 ≤ p
unfolding mirrors_at
mirrors_least mirrors servers s at ms p h =
    let f = then_inv _ _ ms p h in
    let o = then_inv _ _ ms p f.rest in
    let a = many_least server_at 56 s (server_least s) servers at f.item f.next f.first in
    let b = many_least (mirror_at servers) 0 s (mirror_least servers s) (mirrors - 1) f.next o.item o.next o.first in
    let e : o.next ≡ p = same_offset o.rest in
    omega (arith, a, b, e)

pub layout_least : (s : List ℕ) (l : Layout) → layout_body s ≡ accepted l → 80 ≤ length s
layout_least s l e =
    let p = accepted_parts s l e in
    let f = front_size s 0 p.front p.p1 p.front_read in
    let m = mirrors_least p.front.mirrors p.front.servers s p.p1 p.mirrors p.p2 p.mirrors_read in
    let t = tail_size s p.p2 p.tail (length s) p.tail_read in
    omega (arith, f.0, f.1, m, t)

-- ---- the layout4

range_size : (s : List ℕ) (at : ℕ) (v : Range) (p : ℕ) → range_at s at ≡ ok v p → p ≡ at + 16
range_size s at v p h =
    let n = number_read 8 s (at + 8) v.length p (range_read s at v p h).len in
    omega (arith, n.end)

frame_size : (s : List ℕ) (at : ℕ) (v : Frame) (p : ℕ) → frame_at s at ≡ ok v p → p ≡ at + 28
unfolding frame_at
frame_size s at v p h =
    let r = then_inv _ _ v p h in
    let n = then_inv _ _ v p r.rest in
    let m = then_inv _ _ v p n.rest in
    let k = then_inv _ _ v p m.rest in
    let t = pick_inv _ _ 4 v p k.rest in
    let c = then_inv _ _ v p t.chosen in
    let rs = range_size s at r.item r.next r.first in
    let nn = number_read 4 s r.next n.item n.next n.first in
    let mi = item_accepted _ n.next m.item m.next m.first in
    let kn = number_read 4 s m.next k.item k.next k.first in
    let cn = count_read 0 4090 s k.next c.item c.next c.first in
    let e : c.next ≡ p = same_offset c.rest in
    omega (arith, rs, nn.end, mi.1, kn.end, cn.number.end, e)

pub layout4_least : (s : List ℕ) (w : WholeLayout) → layout4 s ≡ accepted w → 108 ≤ length s
unfolding layout4 layout4_at
layout4_least s w e =
    let r = whole_read s (layout4_at s) w e in
    let f = then_inv _ _ w (length s) r in
    let t = pick_inv _ _ 1 w (length s) f.rest in
    let b = then_inv _ _ w (length s) t.chosen in
    let i = item_accepted _ f.next b.item b.next b.first in
    let fs = frame_size s 0 f.item f.next f.first in
    let room : f.next + f.item.size + padding f.item.size ≤ length s = leb-true _ _ t.test in
    let l = layout_least (bytes_from f.item.size s f.next) b.item i.0 in
    let n : length (bytes_from f.item.size s f.next) ≡ f.item.size = length_bytes f.item.size s f.next (omega (arith, room)) in
    omega (arith, fs, room, l, n)

-- ---- the report body

error_size_lem : (s : List ℕ) (at : ℕ) (v : ErrorItem) (p : ℕ) → error_at s at ≡ ok v p → p ≡ at + 24
unfolding error_at
error_size_lem s at v p h =
    let d = then_inv _ _ v p h in
    let u = then_inv _ _ v p d.rest in
    let o = then_inv _ _ v p u.rest in
    let t = pick_inv _ _ 27 v p o.rest in
    let db = bytes_read 16 s at d.item d.next d.first in
    let un = number_read 4 s d.next u.item u.next u.first in
    let on = number_read 4 s u.next o.item o.next o.first in
    let e : o.next ≡ p = same_offset t.chosen in
    omega (arith, db.end, un.end, on.end, e)

head_size : (s : List ℕ) (at : ℕ) (v : ReportHead) (p : ℕ) → report_head_at s at ≡ ok v p → (p ≡ at + 36) × (v.errors ≤ 16)
unfolding report_head_at
head_size s at v p h =
    let r = then_inv _ _ v p h in
    let t = then_inv _ _ v p r.rest in
    let n = then_inv _ _ v p t.rest in
    let rs = range_size s at r.item r.next r.first in
    let tb = bytes_read 16 s r.next t.item t.next t.first in
    let nc = count_read 1 16 s t.next n.item n.next n.first in
    let e : n.next ≡ p = same_offset n.rest in
    let g : n.item ≡ v.errors = ap (λ (x : ReportHead). x.errors) (same_value n.rest) in
    (omega (arith, rs, tb.end, nc.number.end, e), omega (arith, nc.high, g))

report_size : (s : List ℕ) (at : ℕ) (v : Report) (p : ℕ) → report_at s at ≡ ok v p → (p ≡ at + 36 + v.head.errors * 24) × (v.head.errors ≤ 16)
unfolding report_at
report_size s at v p h =
    let d = then_inv _ _ v p h in
    let es = then_inv _ _ v p d.rest in
    let hs = head_size s at d.item d.next d.first in
    let n = many_exact error_at 24 s (error_size_lem s) d.item.errors d.next es.item es.next es.first in
    let e : es.next ≡ p = same_offset es.rest in
    let g : d.item.errors ≡ v.head.errors = ap (λ (x : Report). x.head.errors) (same_value es.rest) in
    (omega (arith, hs.0, n, e, g), omega (arith, hs.1, g))

-- reports and their errors, and how many these can be
reports_size : (n : ℕ) (s : List ℕ) (at : ℕ) (rs : List Report) (p : ℕ) → many_at report_at n s at ≡ ok rs p
    → (p ≡ at + 36 * length rs + 24 * counts (map (λ r. r.head) rs)) × (counts (map (λ r. r.head) rs) ≤ 16 * length rs)
unfolding many_at counts
reports_size zero s at rs p h =
    let e : at ≡ p = same_offset h in
    let g : [] ≡ rs = same_value h in
    rw (← g) (omega (arith, e), omega arith)
reports_size (suc n) s at rs p h =
    let r = then_inv _ _ rs p h in
    let t = then_inv _ _ rs p r.rest in
    let a = report_size s at r.item r.next r.first in
    let b = reports_size n s r.next t.item t.next t.first in
    let e : t.next ≡ p = same_offset t.rest in
    let g : r.item ∷ t.item ≡ rs = same_value t.rest in
    rw (← g) (omega (arith, a.0, b.0, e), omega (arith, a.1, b.1))

abbrev RecordSize : Statistic → Type 0
RecordSize x = (248 ≤ length (statistic_bytes x)) × (length (statistic_bytes x) ≤ 436)

records_size : (rs : List Statistic) → Each StatisticFits rs → checked_statistics rs ≡ accepted tt → Each RecordSize rs
unfolding checked_statistics
records_size [] f e = tt
records_size (r ∷ rs) f e =
    let a = given_inv _ _ _ e in
    (length_statistic r f.0 a.first, records_size rs f.1 a.rest)

pub record ReturnSize (s : List ℕ) (r : LayoutReturn) : Type 0 where
  pub exact : length s ≡ 8 + 36 * length r.reports + 24 * counts (map (λ x. x.head) r.reports) + length (statistics_bytes r.statistics)
  pub each : Each RecordSize r.statistics
  pub reports : 8 + 36 * length r.reports + 24 * counts (map (λ x. x.head) r.reports) ≤ 3368
  pub most : length s ≤ 6856

part_size : (rs : List Statistic) → length (statistics_part rs) ≡ 4 + length (statistics_bytes rs)
unfolding statistics_part
part_size rs = rw (length-append (be_bytes 4 (length rs)) (statistics_bytes rs)) (omega (arith, length_be 4 (length rs)))

pub return_size : (s : List ℕ) (r : LayoutReturn) → AllBytes s → return_body s ≡ accepted r → ReturnSize s r
return_size s r b h =
    let a = read_all s r h in
    let x = a.reports in
    let c = number_read 4 s 0 (length r.reports) 4 x.count in
    let z = reports_size (length r.reports) s 4 r.reports a.offset x.reports in
    let v = part_back s a.offset r.statistics (length s) b a.statistics in
    let n = part_size r.statistics in
    record {
      exact = omega (arith, z.0, v.offset, n);
      each = records_size r.statistics v.fits v.allowed;
      reports = omega (arith, z.1, x.few);
      most = omega (arith, z.0, z.1, x.few, v.offset, v.high, v.few);
    }
