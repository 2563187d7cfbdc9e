-- Laws of records of statistics: what an allowed one says, one with zeros past its lengths, and how long the bytes of each part are.
use Prim.Native.Nat.{ℕ, ◌+◌, ◌*◌, ◌%◌, ◌^◌, ◌≤◌, ◌<◌}
use mathlib.Core.Path.{◌≡◌, refl}
use mathlib.Core.Bool.{true}
use mathlib.Core.List.{List, [], ◌∷◌}
use native.Mathlib.Omega.{arith}
use borrow.Author.Tests.{leb-true, le-leb, ltb-true}
use lib.Dec.{leb, ltb}
use lib.ListN.{length, take, length-append}
use lib.Seq.{length-take-le}
use Rattle.base.specs.Answer.{accepted, given, pick}
use Rattle.base.specs.Limits.{longest_address, longest_filehandle, longest_netid}
use Rattle.base.specs.Lists.{Each}
use Rattle.base.specs.Ranges.{range_last}
use Rattle.base.proofs.AnswerLaws.{both, given_inv, pick_accepted}
use Rattle.octets.specs.Numbers.{be_bytes}
use Rattle.octets.proofs.NumberLaws.{length_be}
use Rattle.xdr.specs.Items.{opaque_bytes}
use Rattle.xdr.proofs.ItemsAtLaws.{length_opaque}
use Rattle.statistics.specs.Latencies.{time_fits}
use Rattle.statistics.specs.StatisticBytes.{StatisticFits, UpdateFits, io_info_bytes, latency_bytes, netaddr_bytes, statistic_bytes, statistics_bytes, statistics_part, time_bytes, update_bytes}
use Rattle.statistics.specs.StatisticChecks.{checked_statistic, checked_statistics, length_fits, lengths_fit, times_fit}
use Rattle.statistics.specs.declared.Time.{Time}
use Rattle.statistics.specs.declared.IoInfo.{IoInfo}
use Rattle.statistics.specs.declared.Latency.{Latency}
use Rattle.statistics.specs.declared.Netaddr.{Netaddr}
use Rattle.statistics.specs.declared.LayoutUpdate.{LayoutUpdate}
use Rattle.statistics.specs.declared.Statistic.{Statistic}

-- ---- what an allowed record says

pub time_small : (t : Time) → time_fits t ≡ true → (t.seconds < 256 ^ 8) × (t.nanoseconds < 256 ^ 4)
unfolding time_fits
time_small t e =
    let b = both (ltb t.seconds (2 ^ 63)) (ltb t.nanoseconds 1000000000) e in
    let s = ltb-true t.seconds (2 ^ 63) b.0 in
    let n = ltb-true t.nanoseconds 1000000000 b.1 in
    (omega (arith, s), omega (arith, n))

-- a length within its limits, and an array of `most` bytes
pub record Field (most len : ℕ) (bytes : List ℕ) : Type 0 where
  pub fits : length_fits most len ≡ true
  pub long : length bytes ≡ most

pub field_limits : (most len : ℕ) → length_fits most len ≡ true → (1 ≤ len) × (len ≤ most)
unfolding length_fits
field_limits most len e = let b = both (leb 1 len) (leb len most) e in (leb-true 1 len b.0, leb-true len most b.1)

pub field_length : (most len : ℕ) (bytes : List ℕ) → Field most len bytes → length (take len bytes) ≡ len
field_length most len bytes f = length-take-le len bytes (omega (arith, f.long, (field_limits most len f.fits).1))

pub record Fields (u : LayoutUpdate) : Type 0 where
  pub netid : Field longest_netid u.address.netid.length u.address.netid.bytes
  pub text : Field longest_address u.address.text.length u.address.text.bytes
  pub filehandle : Field longest_filehandle u.filehandle.length u.filehandle.bytes

pub fields : (u : LayoutUpdate) → UpdateFits u → lengths_fit u ≡ true → Fields u
unfolding lengths_fit
fields u f e =
    let a = both _ _ e in
    let b = both _ _ a.1 in
    record {
      netid = record { fits = a.0; long = f.netid };
      text = record { fits = b.0; long = f.text };
      filehandle = record { fits = b.1; long = f.filehandle };
    }

pub record Times (u : LayoutUpdate) : Type 0 where
  pub read_busy : time_fits u.read.busy ≡ true
  pub read_completion : time_fits u.read.completion ≡ true
  pub write_busy : time_fits u.write.busy ≡ true
  pub write_completion : time_fits u.write.completion ≡ true
  pub duration : time_fits u.duration ≡ true

pub times : (u : LayoutUpdate) → times_fit u ≡ true → Times u
unfolding times_fit
times u e =
    let a = both _ _ e in
    let b = both _ _ a.1 in
    let c = both _ _ b.1 in
    let d = both _ _ c.1 in
    record { read_busy = a.0; read_completion = b.0; write_busy = c.0; write_completion = d.0; duration = d.1 }

pub record Allowed (r : Statistic) : Type 0 where
  pub last : ℕ
  pub range : range_last r.offset r.length ≡ accepted last
  pub lengths : lengths_fit r.update ≡ true
  pub times : times_fit r.update ≡ true
  pub local : r.update.local ≤ 1

pub allowed : (r : Statistic) → checked_statistic r ≡ accepted tt → Allowed r
unfolding checked_statistic
allowed r e =
    let a = given_inv _ _ _ e in
    let b = pick_accepted (lengths_fit r.update) _ 8 _ a.rest in
    let c = pick_accepted (times_fit r.update) _ 28 _ b.1 in
    let d = pick_accepted (leb r.update.local 1) _ 7 _ c.1 in
    record { last = a.value; range = a.first; lengths = b.0; times = c.0; local = leb-true r.update.local 1 d.0 }

pub checked_allowed : (r : Statistic) → Allowed r → checked_statistic r ≡ accepted tt
unfolding checked_statistic given pick
checked_allowed r a = rw (a.range, a.lengths, a.times, le-leb r.update.local 1 a.local)

-- ---- values that are equal in each part

pub same_address : (n n' : ℕ) (ns ns' : List ℕ) (t t' : ℕ) (ts ts' : List ℕ) → n ≡ n' → ns ≡ ns' → t ≡ t' → ts ≡ ts'
    → ◌≡◌ {A = Netaddr} (record { netid = record { length = n; bytes = ns }; text = record { length = t; bytes = ts } })
    (record { netid = record { length = n'; bytes = ns' }; text = record { length = t'; bytes = ts' } })
same_address n n' ns ns' t t' ts ts' a b c d = rw (a, b, c, d)

pub same_update : (u : LayoutUpdate) (a a' : Netaddr) (n n' : ℕ) (bs bs' : List ℕ) (l l' : ℕ) → a ≡ a' → n ≡ n' → bs ≡ bs' → l ≡ l'
    → ◌≡◌ {A = LayoutUpdate} (record { address = a; filehandle = record { length = n; bytes = bs }; read = u.read; write = u.write; duration = u.duration; local = l })
    (record { address = a'; filehandle = record { length = n'; bytes = bs' }; read = u.read; write = u.write; duration = u.duration; local = l' })
same_update u a a' n n' bs bs' l l' e f g h = rw (e, f, g, h)

pub same_statistic : (r : Statistic) (x x' d d' : List ℕ) (u u' : LayoutUpdate) → x ≡ x' → d ≡ d' → u ≡ u'
    → ◌≡◌ {A = Statistic} (record { offset = r.offset; length = r.length; stateid = x; read = r.read; write = r.write; device = d; update = u })
    (record { offset = r.offset; length = r.length; stateid = x'; read = r.read; write = r.write; device = d'; update = u' })
same_statistic r x x' d d' u u' e f g = rw (e, f, g)

-- ---- how long the bytes are

pub length_time : (t : Time) → length (time_bytes t) ≡ 12
unfolding time_bytes
length_time t = simp (length-append, length_be 8 t.seconds, length_be 4 t.nanoseconds) (omega arith)

pub length_io_info : (i : IoInfo) → length (io_info_bytes i) ≡ 16
unfolding io_info_bytes
length_io_info i = simp (length-append, length_be 8 i.count, length_be 8 i.bytes) (omega arith)

pub length_latency : (l : Latency) → length (latency_bytes l) ≡ 64
unfolding latency_bytes
length_latency l = simp (length-append, length_be, length_time) (omega arith)

-- bytes with their length and padding, where the limit is a multiple of 4
pub opaque_most : (n : ℕ) (bs : List ℕ) → n ≤ length bs → (most : ℕ) → n ≤ most → most % 4 ≡ 0 → length (opaque_bytes (take n bs)) ≤ 4 + most
opaque_most n bs h most f e = omega (arith, length_opaque (take n bs), length-take-le n bs h)

pub length_field : (most len : ℕ) (bytes : List ℕ) → most % 4 ≡ 0 → Field most len bytes
    → (8 ≤ length (opaque_bytes (take len bytes))) × (length (opaque_bytes (take len bytes)) ≤ 4 + most)
length_field most len bytes m f =
    let n = field_length most len bytes f in
    let l = field_limits most len f.fits in
    let o = length_opaque (take len bytes) in
    (omega (arith, m, n, l.0, l.1, o), opaque_most len bytes (omega (arith, f.long, l.1)) most l.1 m)

pub length_update : (u : LayoutUpdate) → Fields u → (168 ≤ length (update_bytes u)) × (length (update_bytes u) ≤ 356)
unfolding update_bytes netaddr_bytes
length_update u f =
    let n = length_field longest_netid u.address.netid.length u.address.netid.bytes refl f.netid in
    let t = length_field longest_address u.address.text.length u.address.text.bytes refl f.text in
    let h = length_field longest_filehandle u.filehandle.length u.filehandle.bytes refl f.filehandle in
    simp (length-append, length_be, length_time, length_latency) (omega (arith, n.0, t.0, h.0), omega (arith, n.1, t.1, h.1))

pub length_statistic : (r : Statistic) → StatisticFits r → checked_statistic r ≡ accepted tt → (248 ≤ length (statistic_bytes r)) × (length (statistic_bytes r) ≤ 436)
unfolding statistic_bytes
length_statistic r f e =
    let u = length_update r.update (fields r.update f.update (allowed r e).lengths) in
    simp (length-append, length_be, length_io_info) (omega (arith, f.stateid, f.device, u.0), omega (arith, f.stateid, f.device, u.1))

pub length_statistics : (rs : List Statistic) → Each StatisticFits rs → checked_statistics rs ≡ accepted tt
    → (248 * length rs ≤ length (statistics_bytes rs)) × (length (statistics_bytes rs) ≤ 436 * length rs)
unfolding statistics_bytes checked_statistics
length_statistics [] f e = (omega arith, omega arith)
length_statistics (r ∷ rs) f e =
    let a = given_inv _ _ _ e in
    let x = length_statistic r f.0 a.first in
    let y = length_statistics rs f.1 a.rest in
    let n = length-append (statistic_bytes r) (statistics_bytes rs) in
    (omega (arith, n, x.0, y.0), omega (arith, n, x.1, y.1))

pub length_part : (rs : List Statistic) → Each StatisticFits rs → checked_statistics rs ≡ accepted tt
    → (4 + 248 * length rs ≤ length (statistics_part rs)) × (length (statistics_part rs) ≤ 4 + 436 * length rs)
unfolding statistics_part
length_part rs f e =
    let x = length_statistics rs f e in
    let n = length-append (be_bytes 4 (length rs)) (statistics_bytes rs) in
    let c = length_be 4 (length rs) in
    (omega (arith, n, c, x.0), omega (arith, n, c, x.1))
