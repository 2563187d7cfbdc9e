-- The numbers that each body, read or written, can be refused with.
use Prim.Native.Nat.{ℕ}
use mathlib.Core.Path.{◌≡◌, refl}
use mathlib.Core.Bool.{true}
use mathlib.Core.List.{List, [], ◌∷◌}
use Rattle.base.specs.Iomodes.{grant_iomode_of}
use Rattle.base.specs.Ranges.{range_last, request_last}
use Rattle.xdr.specs.Parsed.{Parsed}
use Rattle.xdr.specs.CountedLists.{list_at}
use Rattle.server.specs.Servers.{handles_at, server_head_at, server_at}
use Rattle.layout.specs.Layouts.{front_at, layout_at, layout_body, mirror_at, mirrors_at, tail_at}
use Rattle.xdr.specs.Items.{range_at}
use Rattle.layout4.specs.Layout4s.{frame_at, layout4, layout4_at}
use Rattle.device.specs.Addresses.{address_at}
use Rattle.device.specs.Versions.{checked_version, version_at}
use Rattle.device.specs.Bodies.{device_at, device_body}
use Rattle.base.specs.Answer.{given}
use Rattle.statistics.specs.Latencies.{io_info_at, latency_at, time_at}
use Rattle.statistics.specs.Statistics.{item_at, netaddr_at, statistic_at, statistics_at, update_at}
use Rattle.statistics.specs.StatisticChecks.{checked_statistic, checked_statistics}
use Rattle.statistics.specs.declared.Statistic.{Statistic}
use Rattle.report.specs.Reports as report
use Rattle.report.specs.declared.Outgoing.{Outgoing}
use Rattle.report.specs.declared.ReportHead.{ReportHead}
use Rattle.report.specs.Writing as write
use Rattle.claims.proofs.Faults.{FaultsIn, RefusalsIn, accepts, all_in, asked, bool_faults, bytes_faults, chosen, count_faults, inside_faults, many_faults, num_faults, opaque_faults, read, run, sixteen_faults, tested, tested_answer, whole_refusals, wider}

-- ---- ranges and iomodes

pub range_refusals : (offset len : ℕ) → RefusalsIn (5 ∷ []) (range_last offset len)
unfolding range_last request_last
range_refusals offset len = chosen _ accepts (tested_answer _ 5 (tested_answer _ 5 accepts refl) refl)

iomode_refusals : (n : ℕ) → RefusalsIn (3 ∷ []) (grant_iomode_of n)
unfolding grant_iomode_of
iomode_refusals n = chosen _ accepts (tested_answer _ 3 accepts refl)

-- ---- the layout body

head_faults : (s : List ℕ) (at : ℕ) → FaultsIn (1 ∷ 6 ∷ 8 ∷ []) (server_head_at s at)
unfolding server_head_at
head_faults s at =
    run (bytes_faults 16 s at) refl λ device p1.
    run (num_faults 4 s p1) refl λ efficiency p2.
    run (bytes_faults 16 s p2) refl λ stateid p3.
    run (count_faults 1 8 s p3) refl λ handles p4.
    read

server_faults : (s : List ℕ) (at : ℕ) → FaultsIn (1 ∷ 6 ∷ 8 ∷ []) (server_at s at)
unfolding server_at handles_at
server_faults s at =
    run (head_faults s at) refl λ head p1.
    run (many_faults (opaque_faults 1 128) head.handles s p1) refl λ handles p2.
    run (opaque_faults 0 64 s p2) refl λ user p3.
    run (opaque_faults 0 64 s p3) refl λ group p4.
    read

front_faults : (s : List ℕ) (at : ℕ) → FaultsIn (1 ∷ 8 ∷ 10 ∷ []) (front_at s at)
unfolding front_at
front_faults s at =
    run (num_faults 8 s at) refl λ unit p1.
    run (count_faults 1 8 s p1) refl λ mirrors p2.
    run (count_faults 1 16 s p2) refl λ servers p3.
    tested _ 10 read refl

mirror_faults : (n : ℕ) (s : List ℕ) (at : ℕ) → FaultsIn (1 ∷ 6 ∷ 8 ∷ 9 ∷ []) (mirror_at n s at)
unfolding mirror_at
mirror_faults n s at =
    run (count_faults 1 16 s at) refl λ count p.
    tested _ 9 (wider (many_faults server_faults n s p) refl) refl

mirrors_faults : (mirrors servers : ℕ) (s : List ℕ) (at : ℕ) → FaultsIn (1 ∷ 6 ∷ 8 ∷ 9 ∷ []) (mirrors_at mirrors servers s at)
unfolding mirrors_at
mirrors_faults mirrors servers s at =
    run (many_faults server_faults servers s at) refl λ first p1.
    run (many_faults (mirror_faults servers) _ s p1) refl λ others p2.
    read

tail_faults : (s : List ℕ) (at : ℕ) → FaultsIn (1 ∷ 11 ∷ []) (tail_at s at)
unfolding tail_at
tail_faults s at = run (num_faults 4 s at) refl λ flags p1. tested _ 11 (run (num_faults 4 s p1) refl λ hint p2. read) refl

layout_faults : (s : List ℕ) → FaultsIn (1 ∷ 6 ∷ 8 ∷ 9 ∷ 10 ∷ 11 ∷ []) (layout_at s)
unfolding layout_at
layout_faults s =
    run (front_faults s 0) refl λ front p1.
    run (mirrors_faults front.mirrors front.servers s p1) refl λ mirrors p2.
    run (tail_faults s p2) refl λ tail p3.
    read

pub layout_refusals : (s : List ℕ) → RefusalsIn (1 ∷ 2 ∷ 6 ∷ 8 ∷ 9 ∷ 10 ∷ 11 ∷ []) (layout_body s)
unfolding layout_body
layout_refusals s = tested_answer _ 8 (whole_refusals s _ (wider (layout_faults s) refl) refl) refl

-- ---- the layout4

range_faults : (s : List ℕ) (at : ℕ) → FaultsIn (1 ∷ 5 ∷ []) (range_at s at)
unfolding range_at
range_faults s at =
    run (num_faults 8 s at) refl λ offset p1.
    run (num_faults 8 s p1) refl λ len p2.
    run (inside_faults _ _ (range_refusals offset len)) refl λ last p3.
    read

frame_faults : (s : List ℕ) (at : ℕ) → FaultsIn (1 ∷ 3 ∷ 4 ∷ 5 ∷ 8 ∷ []) (frame_at s at)
unfolding frame_at
frame_faults s at =
    run (range_faults s at) refl λ range p1.
    run (num_faults 4 s p1) refl λ number p2.
    run (inside_faults _ _ (iomode_refusals number)) refl λ iomode p3.
    run (num_faults 4 s p3) refl λ kind p4.
    tested _ 4 (run (count_faults 0 4090 s p4) refl λ size p5. read) refl

layout4_faults : (s : List ℕ) → FaultsIn (1 ∷ 2 ∷ 3 ∷ 4 ∷ 5 ∷ 6 ∷ 8 ∷ 9 ∷ 10 ∷ 11 ∷ []) (layout4_at s)
unfolding layout4_at
layout4_faults s =
    run (frame_faults s 0) refl λ frame p1.
    tested _ 1
    (run (inside_faults _ _ (layout_refusals _)) refl λ body p2.
    run (bytes_faults frame.size s p2) refl λ index p3.
    read)
    refl

pub layout4_refusals : (s : List ℕ) → RefusalsIn (1 ∷ 2 ∷ 3 ∷ 4 ∷ 5 ∷ 6 ∷ 8 ∷ 9 ∷ 10 ∷ 11 ∷ []) (layout4 s)
unfolding layout4
layout4_refusals s = whole_refusals s _ (layout4_faults s) refl

-- ---- the device body

address_faults : (s : List ℕ) (at : ℕ) → FaultsIn (1 ∷ 6 ∷ 8 ∷ []) (address_at s at)
unfolding address_at
address_faults s at = run (opaque_faults 1 8 s at) refl λ netid p. run (opaque_faults 1 64 s p) refl λ text q. read

version_faults : (s : List ℕ) (at : ℕ) → FaultsIn (1 ∷ 7 ∷ 12 ∷ []) (version_at s at)
unfolding version_at checked_version
version_faults s at =
    run (num_faults 4 s at) refl λ version p.
    run (num_faults 4 s p) refl λ minor q.
    run (num_faults 4 s q) refl λ rsize t.
    run (num_faults 4 s t) refl λ wsize u.
    run (bool_faults s u) refl λ tight v.
    tested _ 12 read refl

list_faults : {A : Type 0} (ns : List ℕ) (lo hi : ℕ) (item : List ℕ → ℕ → Parsed A) (blank : A) (s : List ℕ) (at : ℕ) → all_in (1 ∷ 8 ∷ []) ns ≡ true
    → ((s : List ℕ) (at : ℕ) → FaultsIn ns (item s at)) → all_in ns ns ≡ true → FaultsIn ns (list_at lo hi item blank s at)
unfolding list_at
list_faults ns lo hi item blank s at i h j =
    run (count_faults lo hi s at) i λ n p.
    run (many_faults h n s p) j λ l q.
    read

device_faults : (s : List ℕ) (at : ℕ) → FaultsIn (1 ∷ 6 ∷ 7 ∷ 8 ∷ 12 ∷ []) (device_at s at)
unfolding device_at
device_faults s at =
    run (list_faults (1 ∷ 6 ∷ 8 ∷ []) 1 8 address_at _ s at refl address_faults refl) refl λ a p.
    run (list_faults (1 ∷ 7 ∷ 8 ∷ 12 ∷ []) 1 8 version_at _ s p refl (λ r q. wider (version_faults r q) refl) refl) refl λ v q.
    read

pub device_refusals : (s : List ℕ) → RefusalsIn (1 ∷ 2 ∷ 6 ∷ 7 ∷ 8 ∷ 12 ∷ []) (device_body s)
unfolding device_body
device_refusals s = tested_answer _ 8 (whole_refusals s _ (wider (device_faults s 0) refl) refl) refl

-- ---- error reports, read

error_faults : (s : List ℕ) (at : ℕ) → FaultsIn (1 ∷ 27 ∷ []) (report.error_at s at)
unfolding report.error_at
error_faults s at =
    run (sixteen_faults s at) refl λ device p1.
    run (num_faults 4 s p1) refl λ status p2.
    run (num_faults 4 s p2) refl λ operation p3.
    tested _ 27 read refl

report_head_faults : (s : List ℕ) (at : ℕ) → FaultsIn (1 ∷ 5 ∷ 8 ∷ []) (report.report_head_at s at)
unfolding report.report_head_at
report_head_faults s at =
    run (range_faults s at) refl λ range p1.
    run (sixteen_faults s p1) refl λ stateid p2.
    run (count_faults 1 16 s p2) refl λ n p3.
    read

report_faults : (s : List ℕ) (at : ℕ) → FaultsIn (1 ∷ 5 ∷ 8 ∷ 27 ∷ []) (report.report_at s at)
unfolding report.report_at
report_faults s at =
    run (report_head_faults s at) refl λ h p.
    run (many_faults error_faults h.errors s p) refl λ es q.
    read

reports_faults : (s : List ℕ) (at : ℕ) → FaultsIn (1 ∷ 5 ∷ 8 ∷ 27 ∷ []) (report.reports_at s at)
unfolding report.reports_at
reports_faults s at = run (count_faults 0 8 s at) refl λ n p. many_faults report_faults n s p

-- ---- statistics

time_faults : (s : List ℕ) (at : ℕ) → FaultsIn (1 ∷ 28 ∷ []) (time_at s at)
unfolding time_at
time_faults s at = run (num_faults 8 s at) refl λ seconds p1. run (num_faults 4 s p1) refl λ nanoseconds p2. tested _ 28 read refl

io_info_faults : (s : List ℕ) (at : ℕ) → FaultsIn (1 ∷ []) (io_info_at s at)
unfolding io_info_at
io_info_faults s at = run (num_faults 8 s at) refl λ count p1. run (num_faults 8 s p1) refl λ bytes p2. read

latency_faults : (s : List ℕ) (at : ℕ) → FaultsIn (1 ∷ 28 ∷ []) (latency_at s at)
unfolding latency_at
latency_faults s at =
    run (num_faults 8 s at) refl λ a p1.
    run (num_faults 8 s p1) refl λ b p2.
    run (num_faults 8 s p2) refl λ c p3.
    run (num_faults 8 s p3) refl λ d p4.
    run (num_faults 8 s p4) refl λ e p5.
    run (time_faults s p5) refl λ busy p6.
    run (time_faults s p6) refl λ completion p7.
    read

netaddr_faults : (s : List ℕ) (at : ℕ) → FaultsIn (1 ∷ 6 ∷ 8 ∷ []) (netaddr_at s at)
unfolding netaddr_at
netaddr_faults s at = run (opaque_faults 1 8 s at) refl λ netid p1. run (opaque_faults 1 64 s p1) refl λ text p2. read

update_faults : (s : List ℕ) (at : ℕ) → FaultsIn (1 ∷ 6 ∷ 7 ∷ 8 ∷ 28 ∷ []) (update_at s at)
unfolding update_at
update_faults s at =
    run (netaddr_faults s at) refl λ address p1.
    run (opaque_faults 1 128 s p1) refl λ filehandle p2.
    run (latency_faults s p2) refl λ reads p3.
    run (latency_faults s p3) refl λ writes p4.
    run (time_faults s p4) refl λ duration p5.
    run (bool_faults s p5) refl λ local p6.
    read

item_faults : (s : List ℕ) (at : ℕ) → FaultsIn (1 ∷ 5 ∷ 6 ∷ 7 ∷ 8 ∷ 28 ∷ []) (item_at s at)
unfolding item_at
item_faults s at =
    run (range_faults s at) refl λ range p1.
    run (sixteen_faults s p1) refl λ stateid p2.
    run (io_info_faults s p2) refl λ reads p3.
    run (io_info_faults s p3) refl λ writes p4.
    run (sixteen_faults s p4) refl λ device p5.
    run (update_faults s p5) refl λ update p6.
    read

statistic_faults : (s : List ℕ) (at : ℕ) → FaultsIn (1 ∷ 5 ∷ 6 ∷ 7 ∷ 8 ∷ 28 ∷ []) (statistic_at s at)
unfolding statistic_at
statistic_faults s at = run (item_faults s at) refl λ i p. read

statistics_faults : (s : List ℕ) (at : ℕ) → FaultsIn (1 ∷ 5 ∷ 6 ∷ 7 ∷ 8 ∷ 28 ∷ []) (statistics_at s at)
unfolding statistics_at
statistics_faults s at = run (count_faults 0 8 s at) refl λ n p. many_faults statistic_faults n s p

pub return_refusals : (s : List ℕ) → RefusalsIn (1 ∷ 2 ∷ 5 ∷ 6 ∷ 7 ∷ 8 ∷ 27 ∷ 28 ∷ []) (report.return_body s)
unfolding report.return_body
return_refusals s =
    whole_refusals s _
    (run (reports_faults s 0) refl λ rs p.
    run (statistics_faults s p) refl λ statistics q.
    read)
    refl

-- ---- error reports, written

one_refusals : (h : ReportHead) (es : List write.ErrorEntry) → RefusalsIn (5 ∷ 8 ∷ 27 ∷ []) (write.checked_report h es)
unfolding write.checked_report
one_refusals h es =
    asked (range_refusals h.offset h.length) refl λ last.
    tested_answer _ 8 (tested_answer _ 27 accepts refl) refl

checked_refusals : (hs : List ReportHead) (es : List write.ErrorEntry) → RefusalsIn (5 ∷ 8 ∷ 27 ∷ []) (write.checked_reports hs es)
unfolding write.checked_reports
checked_refusals [] es = accepts
checked_refusals (h ∷ hs) es = asked (one_refusals h _) refl λ u. checked_refusals hs _

record_refusals : (r : Statistic) → RefusalsIn (5 ∷ 7 ∷ 8 ∷ 28 ∷ []) (checked_statistic r)
unfolding checked_statistic
record_refusals r =
    asked (range_refusals r.offset r.length) refl λ last.
    tested_answer _ 8 (tested_answer _ 28 (tested_answer _ 7 accepts refl) refl) refl

records_refusals : (rs : List Statistic) → RefusalsIn (5 ∷ 7 ∷ 8 ∷ 28 ∷ []) (checked_statistics rs)
unfolding checked_statistics
records_refusals [] = accepts
records_refusals (r ∷ rs) = asked (record_refusals r) refl λ u. records_refusals rs

pub written_refusals : (o : Outgoing) (errors : List write.ErrorEntry) (room : ℕ)
    → RefusalsIn (5 ∷ 7 ∷ 8 ∷ 26 ∷ 27 ∷ 28 ∷ []) (write.return_written o errors room)
unfolding write.return_written write.fitted
written_refusals o errors room =
    tested_answer _ 8
    (tested_answer _ 8
    (tested_answer _ 8 (asked (checked_refusals _ _) refl λ u. asked (records_refusals _) refl λ v. tested_answer _ 26 accepts refl) refl)
    refl)
    refl

-- without statistics
pub reports_refusals : (count : ℕ) (heads : List ReportHead) (errors : List write.ErrorEntry) (room : ℕ)
    → RefusalsIn (5 ∷ 8 ∷ 26 ∷ 27 ∷ []) (write.reports_written count heads errors room)
unfolding write.reports_written write.return_written write.fitted checked_statistics given
reports_refusals count heads errors room =
    tested_answer _ 8 (tested_answer _ 8 (tested_answer _ 8 (asked (checked_refusals _ _) refl λ u. tested_answer _ 26 accepts refl) refl) refl) refl
