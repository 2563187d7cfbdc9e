-- Laws of what stands where something was read: times, counts, latencies, addresses, updates, a record, a run of records and their count.
use Prim.Native.Nat.{ℕ, zero, suc, ◌+◌, ◌*◌, ◌≤◌}
use mathlib.Core.Path.{◌≡◌, refl, sym, ap, ◌∙◌}
use mathlib.Core.Bool.{Bool, true, false}
use mathlib.Core.List.{List, [], ◌∷◌, ◌++◌, append_assoc, map}
use native.Mathlib.Omega.{arith}
use borrow.Author.Tests.{le-leb}
use lib.ListN.{length, take}
use lib.Seq.{take_at}
use Rattle.base.specs.Answer.{accepted, given, pick}
use Rattle.base.specs.Limits.{longest_address, longest_filehandle, longest_netid}
use Rattle.base.specs.Lists.{Each, padded}
use Rattle.base.proofs.ListLaws.{length_padded}
use Rattle.octets.specs.Numbers.{AllBytes, be_bytes, bytes_from}
use Rattle.octets.proofs.NumberLaws.{length_bytes}
use Rattle.octets.proofs.BytesAtLaws.{BytesAt}
use Rattle.xdr.specs.Items.{bool_at, bytes_at, count_at, num_at, opaque_at, opaque_bytes, range_at}
use Rattle.xdr.specs.Parsed.{ok, many_at}
use Rattle.xdr.specs.declared.Part.{Part}
use Rattle.xdr.specs.declared.range.Range.{Range}
use Rattle.xdr.proofs.Accepted.{bytes_read, count_read, moved, opaque_read, opaque_within, pick_inv, range_read, then_inv}
use Rattle.xdr.proofs.ItemsAtLaws.{Spans, bool_spans, bytes_span, number_small, number_spans, opaque_spans, range_spans, spans_join}
use Rattle.xdr.proofs.ManyLaws.{first_read, many_length, many_none}
use Rattle.statistics.specs.Latencies.{io_info_at, latency_at, time_at, time_fits}
use Rattle.statistics.specs.Statistics.{item_at, netaddr_at, netaddr_from, statistic_at, statistic_from, statistics_at, update_at, update_from}
use Rattle.statistics.specs.StatisticBytes.{IoInfoFits, LatencyFits, StatisticFits, UpdateFits, cleared, cleared_address, cleared_update, io_info_bytes, latency_bytes, netaddr_bytes, statistic_bytes, statistics_bytes, statistics_part, time_bytes, update_bytes}
use Rattle.statistics.specs.StatisticChecks.{checked_statistic, checked_statistics, length_fits, lengths_fit, times_fit}
use Rattle.statistics.specs.declared.Time.{Time}
use Rattle.statistics.specs.declared.IoInfo.{IoInfo}
use Rattle.statistics.specs.declared.Latency.{Latency}
use Rattle.statistics.specs.declared.Netaddr.{Netaddr}
use Rattle.statistics.specs.declared.LayoutUpdate.{LayoutUpdate}
use Rattle.statistics.specs.declared.Statistic.{Statistic}
use Rattle.statistics.specs.declared.updates.NetaddrItem.{NetaddrItem}
use Rattle.statistics.specs.declared.updates.UpdateItem.{UpdateItem}
use Rattle.statistics.specs.declared.item.StatisticItem.{StatisticItem}
use Rattle.statistics.proofs.StatisticLaws.{Field, checked_allowed, length_part, length_statistic, length_statistics, same_address, same_statistic, same_update}

-- ---- numbers

pub record TimeBack (t : Time) (s : List ℕ) (at p : ℕ) : Type 0 where
  pub spans : Spans (time_bytes t) s at p
  pub fits : time_fits t ≡ true

time_parts : (s : List ℕ) (at x p1 y p2 : ℕ) → AllBytes s → num_at 8 s at ≡ ok x p1 → num_at 4 s p1 ≡ ok y p2
    → time_fits (record { seconds = x; nanoseconds = y }) ≡ true → TimeBack (record { seconds = x; nanoseconds = y }) s at p2
unfolding time_bytes
time_parts s at x p1 y p2 b f g k =
    record { spans = spans_join (be_bytes 8 x) (be_bytes 4 y) s at p1 p2 (number_spans 8 s at x p1 b f) (number_spans 4 s p1 y p2 b g); fits = k }

pub time_back : (s : List ℕ) (at : ℕ) (t : Time) (p : ℕ) → AllBytes s → time_at s at ≡ ok t p → TimeBack t s at p
unfolding time_at
time_back s at t p b h =
    let x = then_inv _ _ _ _ h in
    let y = then_inv _ _ _ _ x.rest in
    let k = pick_inv (time_fits (record { seconds = x.item; nanoseconds = y.item })) _ 28 t p y.rest in
    moved (λ v q. TimeBack v s at q) _ t _ p k.chosen (time_parts s at x.item x.next y.item y.next b x.first y.first k.test)

pub record IoInfoBack (i : IoInfo) (s : List ℕ) (at p : ℕ) : Type 0 where
  pub spans : Spans (io_info_bytes i) s at p
  pub fits : IoInfoFits i

io_info_parts : (s : List ℕ) (at x p1 y p2 : ℕ) → AllBytes s → num_at 8 s at ≡ ok x p1 → num_at 8 s p1 ≡ ok y p2
    → IoInfoBack (record { count = x; bytes = y }) s at p2
unfolding io_info_bytes
io_info_parts s at x p1 y p2 b f g = record {
  spans = spans_join (be_bytes 8 x) (be_bytes 8 y) s at p1 p2 (number_spans 8 s at x p1 b f) (number_spans 8 s p1 y p2 b g);
  fits = (number_small 8 s at x p1 b f, number_small 8 s p1 y p2 b g);
}

pub io_info_back : (s : List ℕ) (at : ℕ) (i : IoInfo) (p : ℕ) → AllBytes s → io_info_at s at ≡ ok i p → IoInfoBack i s at p
unfolding io_info_at
io_info_back s at i p b h =
    let x = then_inv _ _ _ _ h in
    let y = then_inv _ _ _ _ x.rest in
    moved (λ v q. IoInfoBack v s at q) _ i _ p y.rest (io_info_parts s at x.item x.next y.item y.next b x.first y.first)

pub record LatencyBack (l : Latency) (s : List ℕ) (at p : ℕ) : Type 0 where
  pub spans : Spans (latency_bytes l) s at p
  pub fits : LatencyFits l
  pub busy : time_fits l.busy ≡ true
  pub completion : time_fits l.completion ≡ true

abbrev latency_with : ℕ → ℕ → ℕ → ℕ → ℕ → Time → Time → Latency
latency_with a b c d e t u = record {
  ops_requested = a;
  bytes_requested = b;
  ops_completed = c;
  bytes_completed = d;
  bytes_not_delivered = e;
  busy = t;
  completion = u;
}

latency_parts : (s : List ℕ) (at a p1 b p2 c p3 d p4 e p5 : ℕ) (t : Time) (p6 : ℕ) (u : Time) (p7 : ℕ) → AllBytes s
    → num_at 8 s at ≡ ok a p1 → num_at 8 s p1 ≡ ok b p2 → num_at 8 s p2 ≡ ok c p3 → num_at 8 s p3 ≡ ok d p4 → num_at 8 s p4 ≡ ok e p5
    → time_at s p5 ≡ ok t p6 → time_at s p6 ≡ ok u p7 → LatencyBack (latency_with a b c d e t u) s at p7
unfolding latency_bytes
latency_parts s at a p1 b p2 c p3 d p4 e p5 t p6 u p7 i h1 h2 h3 h4 h5 h6 h7 =
    let x = time_back s p5 t p6 i h6 in
    let y = time_back s p6 u p7 i h7 in
    record {
      spans = spans_join _ _ s at p1 p7 (number_spans 8 s at a p1 i h1)
          (spans_join _ _ s p1 p2 p7 (number_spans 8 s p1 b p2 i h2)
          (spans_join _ _ s p2 p3 p7 (number_spans 8 s p2 c p3 i h3)
          (spans_join _ _ s p3 p4 p7 (number_spans 8 s p3 d p4 i h4)
          (spans_join _ _ s p4 p5 p7 (number_spans 8 s p4 e p5 i h5) (spans_join _ _ s p5 p6 p7 x.spans y.spans)))));
      fits = (
        number_small 8 s at a p1 i h1,
        number_small 8 s p1 b p2 i h2,
        number_small 8 s p2 c p3 i h3,
        number_small 8 s p3 d p4 i h4,
        number_small 8 s p4 e p5 i h5,
      );
      busy = x.fits;
      completion = y.fits;
    }

pub latency_back : (s : List ℕ) (at : ℕ) (l : Latency) (p : ℕ) → AllBytes s → latency_at s at ≡ ok l p → LatencyBack l s at p
unfolding latency_at
latency_back s at l p i h =
    let a = then_inv _ _ _ _ h in
    let b = then_inv _ _ _ _ a.rest in
    let c = then_inv _ _ _ _ b.rest in
    let d = then_inv _ _ _ _ c.rest in
    let e = then_inv _ _ _ _ d.rest in
    let t = then_inv _ _ _ _ e.rest in
    let u = then_inv _ _ _ _ t.rest in
    moved (λ v q. LatencyBack v s at q) _ l _ p u.rest
    (latency_parts s at a.item a.next b.item b.next c.item c.next d.item d.next e.item e.next t.item t.next u.item u.next
    i a.first b.first c.first d.first e.first t.first u.first)

-- ---- bytes with a length in front, in an array of `most`

pub record FieldBack (most len : ℕ) (bytes s : List ℕ) (at p : ℕ) : Type 0 where
  pub spans : Spans (opaque_bytes (take len bytes)) s at p
  pub field : Field most len bytes
  pub clear : padded most 0 (take len bytes) ≡ bytes

pub field_back : (most : ℕ) (s : List ℕ) (at : ℕ) (v : Part) (p : ℕ) → AllBytes s → opaque_at 1 most s at ≡ ok v p
    → FieldBack most v.len (padded most 0 (bytes_from v.len s v.start)) s at p
unfolding padded length_fits
field_back most s at v p b h =
    let r = (opaque_read 1 most s at v p h).count in
    let bs = bytes_from v.len s v.start in
    let n : length bs ≡ v.len = length_bytes v.len s v.start (opaque_within 1 most s at v p h) in
    let t : take v.len (padded most 0 bs) ≡ bs = take_at bs _ v.len n in
    record {
      spans = rw t (opaque_spans 1 most s at v p b h);
      field = record { fits = rw (le-leb 1 v.len r.low, le-leb v.len most r.high); long = length_padded most 0 bs (omega (arith, n, r.high)) };
      clear = ap (padded most 0) t;
    }

-- ---- addresses

pub record NetaddrBack (a : Netaddr) (s : List ℕ) (at p : ℕ) : Type 0 where
  pub spans : Spans (netaddr_bytes a) s at p
  pub netid : Field longest_netid a.netid.length a.netid.bytes
  pub text : Field longest_address a.text.length a.text.bytes
  pub clear : cleared_address a ≡ a

netaddr_parts : (s : List ℕ) (at : ℕ) (n : Part) (p1 : ℕ) (t : Part) (p2 : ℕ) → AllBytes s → opaque_at 1 longest_netid s at ≡ ok n p1 → opaque_at 1 longest_address s p1 ≡ ok t p2
    → NetaddrBack (netaddr_from s (record { netid = n; text = t })) s at p2
unfolding netaddr_bytes
netaddr_parts s at n p1 t p2 b f g =
    let x = field_back longest_netid s at n p1 b f in
    let y = field_back longest_address s p1 t p2 b g in
    record {
      spans = spans_join _ _ s at p1 p2 x.spans y.spans;
      netid = x.field;
      text = y.field;
      clear = same_address _ _ _ _ _ _ _ _ refl x.clear refl y.clear;
    }

pub netaddr_back : (s : List ℕ) (at : ℕ) (i : NetaddrItem) (p : ℕ) → AllBytes s → netaddr_at s at ≡ ok i p → NetaddrBack (netaddr_from s i) s at p
unfolding netaddr_at
netaddr_back s at i p b h =
    let x = then_inv _ _ _ _ h in
    let y = then_inv _ _ _ _ x.rest in
    moved (λ v q. NetaddrBack (netaddr_from s v) s at q) _ i _ p y.rest (netaddr_parts s at x.item x.next y.item y.next b x.first y.first)

-- ---- updates

pub record UpdateBack (u : LayoutUpdate) (s : List ℕ) (at p : ℕ) : Type 0 where
  pub spans : Spans (update_bytes u) s at p
  pub fits : UpdateFits u
  pub lengths : lengths_fit u ≡ true
  pub times : times_fit u ≡ true
  pub local : u.local ≤ 1
  pub clear : cleared_update u ≡ u

bit_low : (t : Bool) → pick t 1 0 ≤ 1
unfolding pick
bit_low true = omega arith
bit_low false = omega arith

abbrev update_item : NetaddrItem → Part → Latency → Latency → Time → Bool → UpdateItem
update_item a h r w d l = record { address = a; filehandle = h; read = r; write = w; duration = d; local = l }

update_parts : (s : List ℕ) (at : ℕ) (a : NetaddrItem) (p1 : ℕ) (h : Part) (p2 : ℕ) (r : Latency) (p3 : ℕ) (w : Latency) (p4 : ℕ) (d : Time) (p5 : ℕ) (l : Bool) (p6 : ℕ)
    → AllBytes s → netaddr_at s at ≡ ok a p1 → opaque_at 1 longest_filehandle s p1 ≡ ok h p2 → latency_at s p2 ≡ ok r p3 → latency_at s p3 ≡ ok w p4
    → time_at s p4 ≡ ok d p5 → bool_at s p5 ≡ ok l p6 → UpdateBack (update_from s (update_item a h r w d l)) s at p6
unfolding update_bytes lengths_fit times_fit
update_parts s at a p1 h p2 r p3 w p4 d p5 l p6 i h1 h2 h3 h4 h5 h6 =
    let x = netaddr_back s at a p1 i h1 in
    let y = field_back longest_filehandle s p1 h p2 i h2 in
    let m = latency_back s p2 r p3 i h3 in
    let n = latency_back s p3 w p4 i h4 in
    let t = time_back s p4 d p5 i h5 in
    record {
      spans = spans_join _ _ s at p1 p6 x.spans
          (spans_join _ _ s p1 p2 p6 y.spans
          (spans_join _ _ s p2 p3 p6 m.spans
          (spans_join _ _ s p3 p4 p6 n.spans (spans_join _ _ s p4 p5 p6 t.spans (bool_spans s p5 l p6 i h6)))));
      fits = record { netid = x.netid.long; text = x.text.long; filehandle = y.field.long; read = m.fits; write = n.fits };
      lengths = rw (x.netid.fits, x.text.fits, y.field.fits);
      times = rw (m.busy, m.completion, n.busy, n.completion, t.fits);
      local = bit_low l;
      clear = same_update (update_from s (update_item a h r w d l)) _ _ _ _ _ _ _ _ x.clear refl y.clear refl;
    }

pub update_back : (s : List ℕ) (at : ℕ) (i : UpdateItem) (p : ℕ) → AllBytes s → update_at s at ≡ ok i p → UpdateBack (update_from s i) s at p
unfolding update_at
update_back s at i p b e =
    let a = then_inv _ _ _ _ e in
    let h = then_inv _ _ _ _ a.rest in
    let r = then_inv _ _ _ _ h.rest in
    let w = then_inv _ _ _ _ r.rest in
    let d = then_inv _ _ _ _ w.rest in
    let l = then_inv _ _ _ _ d.rest in
    moved (λ v q. UpdateBack (update_from s v) s at q) _ i _ p l.rest
    (update_parts s at a.item a.next h.item h.next r.item r.next w.item w.next d.item d.next l.item l.next
    b a.first h.first r.first w.first d.first l.first)

-- ---- a record

pub record StatisticBack (r : Statistic) (s : List ℕ) (at p : ℕ) : Type 0 where
  pub stands : BytesAt (statistic_bytes r) s at
  pub offset : p ≡ at + length (statistic_bytes r)
  pub within : p ≤ length s
  pub fits : StatisticFits r
  pub allowed : checked_statistic r ≡ accepted tt
  pub low : 248 ≤ length (statistic_bytes r)
  pub high : length (statistic_bytes r) ≤ 436
  pub clear : cleared r ≡ r

all_back : (r : Statistic) (s : List ℕ) (at p : ℕ) → Spans (statistic_bytes r) s at p → StatisticFits r → checked_statistic r ≡ accepted tt → cleared r ≡ r → StatisticBack r s at p
all_back r s at p x f e c =
    let n = length_statistic r f e in
    record { stands = x.stands; offset = x.end; within = omega (arith, x.stands.room, x.end); fits = f; allowed = e; low = n.0; high = n.1; clear = c }

sixteen_long : (s : List ℕ) (at : ℕ) (v : Part) (p : ℕ) → bytes_at 16 s at ≡ ok v p → length (bytes_from 16 s v.start) ≡ 16
sixteen_long s at v p h =
    let r = bytes_read 16 s at v p h in
    let e : v.start ≡ at = ap (λ (x : Part). x.start) r.value in
    length_bytes 16 s v.start (omega (arith, r.end, r.within, e))

abbrev item_with : Range → ℕ → IoInfo → IoInfo → ℕ → UpdateItem → StatisticItem
item_with v x r w d u = record { range = v; stateid = x; read = r; write = w; device = d; update = u }

item_parts : (s : List ℕ) (at : ℕ) (v : Range) (p1 : ℕ) (x : Part) (p2 : ℕ) (r : IoInfo) (p3 : ℕ) (w : IoInfo) (p4 : ℕ) (d : Part) (p5 : ℕ) (u : UpdateItem) (p6 : ℕ)
    → AllBytes s → range_at s at ≡ ok v p1 → bytes_at 16 s p1 ≡ ok x p2 → io_info_at s p2 ≡ ok r p3 → io_info_at s p3 ≡ ok w p4
    → bytes_at 16 s p4 ≡ ok d p5 → update_at s p5 ≡ ok u p6 → StatisticBack (statistic_from s (item_with v x.start r w d.start u)) s at p6
unfolding statistic_bytes
item_parts s at v p1 x p2 r p3 w p4 d p5 u p6 i h1 h2 h3 h4 h5 h6 =
    let g = range_read s at v p1 h1 in
    let m = io_info_back s p2 r p3 i h3 in
    let n = io_info_back s p3 w p4 i h4 in
    let y = update_back s p5 u p6 i h6 in
    let o = be_bytes 8 v.offset in
    let l = be_bytes 8 v.length in
    let rest = bytes_from 16 s x.start ++ (io_info_bytes r ++ (io_info_bytes w ++ (bytes_from 16 s d.start ++ update_bytes (update_from s u)))) in
    let z = statistic_from s (item_with v x.start r w d.start u) in
    let all : Spans (o ++ l ++ rest) s at p6 =
    spans_join (o ++ l) rest s at p1 p6 (range_spans s at v p1 i h1)
    (spans_join _ _ s p1 p2 p6 (bytes_span 16 s p1 x p2 refl h2)
    (spans_join _ _ s p2 p3 p6 m.spans
    (spans_join _ _ s p3 p4 p6 n.spans
    (spans_join _ _ s p4 p5 p6 (bytes_span 16 s p4 d p5 refl h5) y.spans)))) in
    all_back z s at p6 (rw (append_assoc o l rest) at all)
    (record {
      offset = number_small 8 s at v.offset (at + 8) i g.offset;
      len = number_small 8 s (at + 8) v.length p1 i g.len;
      stateid = sixteen_long s p1 x p2 h2;
      read = m.fits;
      write = n.fits;
      device = sixteen_long s p4 d p5 h5;
      update = y.fits;
    })
    (checked_allowed z (record { last = v.last; range = g.last; lengths = y.lengths; times = y.times; local = y.local }))
    (same_statistic z _ _ _ _ _ _ refl refl y.clear)

pub item_back : (s : List ℕ) (at : ℕ) (i : StatisticItem) (p : ℕ) → AllBytes s → item_at s at ≡ ok i p → StatisticBack (statistic_from s i) s at p
unfolding item_at
item_back s at i p b e =
    let v = then_inv _ _ _ _ e in
    let x = then_inv _ _ _ _ v.rest in
    let r = then_inv _ _ _ _ x.rest in
    let w = then_inv _ _ _ _ r.rest in
    let d = then_inv _ _ _ _ w.rest in
    let u = then_inv _ _ _ _ d.rest in
    moved (λ j q. StatisticBack (statistic_from s j) s at q) _ i _ p u.rest
    (item_parts s at v.item v.next x.item x.next r.item r.next w.item w.next d.item d.next u.item u.next
    b v.first x.first r.first w.first d.first u.first)

pub statistic_back : (s : List ℕ) (at : ℕ) (r : Statistic) (p : ℕ) → AllBytes s → statistic_at s at ≡ ok r p → StatisticBack r s at p
unfolding statistic_at
statistic_back s at r p b e =
    let i = then_inv _ _ _ _ e in
    moved (λ v q. StatisticBack v s at q) _ r _ p i.rest (item_back s at i.item i.next b i.first)

-- ---- a run of records, and their count in front

pub record StatisticsBack (rs : List Statistic) (s : List ℕ) (at p : ℕ) : Type 0 where
  pub stands : BytesAt (statistics_bytes rs) s at
  pub offset : p ≡ at + length (statistics_bytes rs)
  pub within : p ≤ length s
  pub fits : Each StatisticFits rs
  pub allowed : checked_statistics rs ≡ accepted tt
  pub low : 248 * length rs ≤ length (statistics_bytes rs)
  pub high : length (statistics_bytes rs) ≤ 436 * length rs
  pub clear : map cleared rs ≡ rs

run_back : (rs : List Statistic) (s : List ℕ) (at p : ℕ) → Spans (statistics_bytes rs) s at p → Each StatisticFits rs → checked_statistics rs ≡ accepted tt → map cleared rs ≡ rs
    → StatisticsBack rs s at p
run_back rs s at p x f e c =
    let n = length_statistics rs f e in
    record { stands = x.stands; offset = x.end; within = omega (arith, x.stands.room, x.end); fits = f; allowed = e; low = n.0; high = n.1; clear = c }

no_statistics : (s : List ℕ) (at : ℕ) → at ≤ length s → StatisticsBack [] s at at
unfolding statistics_bytes checked_statistics
no_statistics s at r = run_back [] s at at (record { stands = record { room = omega (arith, r); same = refl }; end = omega arith }) tt refl refl

more_statistics : (r : Statistic) (rs : List Statistic) (s : List ℕ) (at p q : ℕ) → StatisticBack r s at p → StatisticsBack rs s p q → StatisticsBack (r ∷ rs) s at q
unfolding statistics_bytes checked_statistics given
more_statistics r rs s at p q x y =
    run_back (r ∷ rs) s at q
    (spans_join (statistic_bytes r) (statistics_bytes rs) s at p q (record { stands = x.stands; end = x.offset }) (record { stands = y.stands; end = y.offset }))
    (x.fits, y.fits) (rw x.allowed y.allowed) (rw (x.clear, y.clear))

pub statistics_back : (n : ℕ) (s : List ℕ) (at : ℕ) (rs : List Statistic) (p : ℕ) → AllBytes s → at ≤ length s → many_at statistic_at n s at ≡ ok rs p → StatisticsBack rs s at p
statistics_back zero s at rs p b r h =
    moved (λ qs q. StatisticsBack qs s at q) [] rs at p (sym (many_none statistic_at zero s at refl) ∙ h) (no_statistics s at r)
statistics_back (suc n) s at rs p b r h =
    let a = first_read statistic_at n s at rs p h in
    let x = statistic_back s at a.head a.next b a.first in
    let y = statistics_back n s a.next a.others p b x.within a.rest in
    rw (← a.all) (more_statistics a.head a.others s at a.next p x y)

pub record PartBack (rs : List Statistic) (s : List ℕ) (at p : ℕ) : Type 0 where
  pub few : length rs ≤ 8
  pub stands : BytesAt (statistics_part rs) s at
  pub offset : p ≡ at + length (statistics_part rs)
  pub within : p ≤ length s
  pub fits : Each StatisticFits rs
  pub allowed : checked_statistics rs ≡ accepted tt
  pub low : 4 + 248 * length rs ≤ length (statistics_part rs)
  pub high : length (statistics_part rs) ≤ 4 + 436 * length rs
  pub clear : map cleared rs ≡ rs

part_parts : (s : List ℕ) (at n p1 : ℕ) (rs : List Statistic) (p : ℕ) → AllBytes s → count_at 0 8 s at ≡ ok n p1 → many_at statistic_at n s p1 ≡ ok rs p → PartBack rs s at p
unfolding statistics_part
part_parts s at n p1 rs p b f g =
    let c = count_read 0 8 s at n p1 f in
    let m : length rs ≡ n = many_length statistic_at n s p1 rs p g in
    let y = statistics_back n s p1 rs p b c.number.within g in
    let k = length_part rs y.fits y.allowed in
    let x = spans_join (be_bytes 4 n) (statistics_bytes rs) s at p1 p (number_spans 4 s at n p1 b c.read) (record { stands = y.stands; end = y.offset }) in
    let z : Spans (be_bytes 4 (length rs) ++ statistics_bytes rs) s at p = rw m x in
    record {
      few = omega (arith, m, c.high);
      stands = z.stands;
      offset = z.end;
      within = y.within;
      fits = y.fits;
      allowed = y.allowed;
      low = k.0;
      high = k.1;
      clear = y.clear;
    }

pub part_back : (s : List ℕ) (at : ℕ) (rs : List Statistic) (p : ℕ) → AllBytes s → statistics_at s at ≡ ok rs p → PartBack rs s at p
unfolding statistics_at
part_back s at rs p b h = let a = then_inv _ _ _ _ h in part_parts s at a.item a.next rs p b a.first a.rest
