-- Laws of reading what is there: times, counts, latencies, addresses, updates, a record, a run of records and their count.
use Prim.Native.Nat.{ℕ, ◌+◌, ◌^◌, ◌≤◌, ◌<◌}
use mathlib.Core.Path.{◌≡◌, refl, sym, ap, ◌∙◌}
use mathlib.Core.Bool.{true}
use mathlib.Core.List.{List, [], ◌∷◌, ◌++◌, append_assoc, map}
use native.Mathlib.Omega.{arith}
use lib.Dec.{eqb}
use lib.ListN.{length, take}
use Rattle.base.specs.Answer.{accepted, pick}
use Rattle.base.specs.Limits.{longest_address, longest_filehandle, longest_netid}
use Rattle.base.specs.Lists.{Each, padded}
use Rattle.base.proofs.AnswerLaws.{given_inv}
use Rattle.octets.specs.Numbers.{be_bytes, bytes_from}
use Rattle.octets.proofs.NumberLaws.{length_be}
use Rattle.octets.proofs.BytesAtLaws.{BytesAt, bytes_at_parts}
use Rattle.xdr.specs.Items.{bytes_at, opaque_at, opaque_bytes}
use Rattle.xdr.specs.Parsed.{ok, then, many_at}
use Rattle.xdr.specs.declared.Part.{Part}
use Rattle.xdr.proofs.Accepted.{bit_is}
use Rattle.xdr.proofs.ItemsAtLaws.{bool_stands, bytes_stand, count_stands, number_stands, opaque_inside, opaque_stands, range_stands, then_stands}
use Rattle.statistics.specs.Latencies.{io_info_at, latency_at, time_at, time_fits}
use Rattle.statistics.specs.Statistics.{item_at, netaddr_at, netaddr_from, statistic_at, statistic_from, statistics_at, update_at, update_from}
use Rattle.statistics.specs.StatisticBytes.{IoInfoFits, LatencyFits, StatisticFits, UpdateFits, cleared, cleared_address, cleared_update, io_info_bytes, latency_bytes, netaddr_bytes, statistic_bytes, statistics_bytes, statistics_part, time_bytes, update_bytes}
use Rattle.statistics.specs.StatisticChecks.{checked_statistic, checked_statistics}
use Rattle.statistics.specs.declared.Time.{Time}
use Rattle.statistics.specs.declared.IoInfo.{IoInfo}
use Rattle.statistics.specs.declared.Latency.{Latency}
use Rattle.statistics.specs.declared.Netaddr.{Netaddr}
use Rattle.statistics.specs.declared.LayoutUpdate.{LayoutUpdate}
use Rattle.statistics.specs.declared.Statistic.{Statistic}
use Rattle.statistics.specs.declared.updates.NetaddrItem.{NetaddrItem}
use Rattle.statistics.specs.declared.updates.UpdateItem.{UpdateItem}
use Rattle.statistics.specs.declared.item.StatisticItem.{StatisticItem}
use Rattle.statistics.proofs.StatisticLaws.{Field, Fields, Times, allowed, field_length, field_limits, fields, same_address, same_statistic, same_update, time_small, times}

-- ---- numbers

pub time_stands : (t : Time) (s : List ℕ) (at : ℕ) → time_fits t ≡ true → BytesAt (time_bytes t) s at → time_at s at ≡ ok t (at + length (time_bytes t))
unfolding time_bytes time_at then pick
time_stands t s at f w =
    let k = time_small t f in
    then_stands _ _ t.seconds _ _ _ s at w (number_stands 8 _ s at k.0) λ v.
    rw (number_stands 4 t.nanoseconds s _ k.1 v, f)

pub io_info_stands : (i : IoInfo) (s : List ℕ) (at : ℕ) → IoInfoFits i → BytesAt (io_info_bytes i) s at → io_info_at s at ≡ ok i (at + length (io_info_bytes i))
unfolding io_info_bytes io_info_at then
io_info_stands i s at f w =
    then_stands _ _ i.count _ _ _ s at w (number_stands 8 _ s at f.0) λ v.
    rw (number_stands 8 i.bytes s _ f.1 v)

pub latency_stands : (l : Latency) (s : List ℕ) (at : ℕ) → LatencyFits l → time_fits l.busy ≡ true → time_fits l.completion ≡ true
    → BytesAt (latency_bytes l) s at → latency_at s at ≡ ok l (at + length (latency_bytes l))
unfolding latency_bytes latency_at then
latency_stands l s at f b c w =
    then_stands _ _ l.ops_requested _ _ _ s at w (number_stands 8 _ s _ f.0) λ w1.
    then_stands _ _ l.bytes_requested _ _ _ s _ w1 (number_stands 8 _ s _ f.1) λ w2.
    then_stands _ _ l.ops_completed _ _ _ s _ w2 (number_stands 8 _ s _ f.2) λ w3.
    then_stands _ _ l.bytes_completed _ _ _ s _ w3 (number_stands 8 _ s _ f.3) λ w4.
    then_stands _ _ l.bytes_not_delivered _ _ _ s _ w4 (number_stands 8 _ s _ f.4) λ w5.
    then_stands _ _ l.busy _ _ _ s _ w5 (time_stands l.busy s _ b) λ w6.
    rw (time_stands l.completion s _ c w6)

-- ---- bytes with a length in front, in an array of `most`

-- where they are, and the array made of them
pub record FieldStands (most len : ℕ) (bytes s : List ℕ) (at : ℕ) : Type 0 where
  pub part : Part
  pub read : opaque_at 1 most s at ≡ ok part (at + length (opaque_bytes (take len bytes)))
  pub size : part.len ≡ len
  pub made : padded most 0 (bytes_from part.len s part.start) ≡ padded most 0 (take len bytes)

pub field_stands : (most len : ℕ) (bytes s : List ℕ) (at : ℕ) → most < 256 ^ 4 → Field most len bytes → BytesAt (opaque_bytes (take len bytes)) s at
    → FieldStands most len bytes s at
field_stands most len bytes s at m f w =
    let bs = take len bytes in
    let n : length bs ≡ len = field_length most len bytes f in
    let l = field_limits most len f.fits in
    record {
      part = record { start = at + 4; len = length bs };
      read = opaque_stands 1 most bs s at (omega (arith, n, l.0)) (omega (arith, n, l.1)) (omega (arith, n, l.1, m)) w;
      size = n;
      made = ap (padded most 0) (opaque_inside bs s at w);
    }

-- ---- addresses

pub record NetaddrStands (a : Netaddr) (s : List ℕ) (at : ℕ) : Type 0 where
  pub item : NetaddrItem
  pub read : netaddr_at s at ≡ ok item (at + length (netaddr_bytes a))
  pub made : netaddr_from s item ≡ cleared_address a

pub netaddr_stands : (a : Netaddr) (s : List ℕ) (at : ℕ) → Field longest_netid a.netid.length a.netid.bytes → Field longest_address a.text.length a.text.bytes
    → BytesAt (netaddr_bytes a) s at → NetaddrStands a s at
unfolding netaddr_bytes netaddr_at then
netaddr_stands a s at f g w =
    let n = opaque_bytes (take a.netid.length a.netid.bytes) in
    let t = opaque_bytes (take a.text.length a.text.bytes) in
    let p = bytes_at_parts n t s at w in
    let x = field_stands longest_netid a.netid.length a.netid.bytes s at (omega arith) f p.0 in
    let y = field_stands longest_address a.text.length a.text.bytes s (at + length n) (omega arith) g p.1 in
    let i : NetaddrItem = record { netid = x.part; text = y.part } in
    record {
      item = i;
      read = then_stands _ _ x.part i n t s at w (λ v. x.read) λ v. rw y.read;
      made = same_address _ _ _ _ _ _ _ _ x.size x.made y.size y.made;
    }

-- ---- updates

pub record UpdateStands (u : LayoutUpdate) (s : List ℕ) (at : ℕ) : Type 0 where
  pub item : UpdateItem
  pub read : update_at s at ≡ ok item (at + length (update_bytes u))
  pub made : update_from s item ≡ cleared_update u

pub update_stands : (u : LayoutUpdate) (s : List ℕ) (at : ℕ) → UpdateFits u → Fields u → Times u → u.local ≤ 1 → BytesAt (update_bytes u) s at → UpdateStands u s at
unfolding update_bytes update_at then
update_stands u s at f g t k w =
    let a = netaddr_bytes u.address in
    let h = opaque_bytes (take u.filehandle.length u.filehandle.bytes) in
    let rest = latency_bytes u.read ++ (latency_bytes u.write ++ (time_bytes u.duration ++ be_bytes 4 u.local)) in
    let p = bytes_at_parts a (h ++ rest) s at w in
    let q = bytes_at_parts h rest s (at + length a) p.1 in
    let x = netaddr_stands u.address s at g.netid g.text p.0 in
    let y = field_stands longest_filehandle u.filehandle.length u.filehandle.bytes s (at + length a) (omega arith) g.filehandle q.0 in
    let i : UpdateItem = record { address = x.item; filehandle = y.part; read = u.read; write = u.write; duration = u.duration; local = eqb u.local 1 } in
    record {
      item = i;
      read = then_stands _ _ x.item i a (h ++ rest) s at w (λ v. x.read) λ w1.
          then_stands _ _ y.part i h rest s (at + length a) w1 (λ v. y.read) λ w2.
          then_stands _ _ u.read _ _ _ s _ w2 (latency_stands u.read s _ f.read t.read_busy t.read_completion) λ w3.
          then_stands _ _ u.write _ _ _ s _ w3 (latency_stands u.write s _ f.write t.write_busy t.write_completion) λ w4.
          then_stands _ _ u.duration _ _ _ s _ w4 (time_stands u.duration s _ t.duration) λ w5.
          rw (bool_stands u.local s _ k w5, length_be 4 u.local);
      made = same_update u _ _ _ _ _ _ _ _ x.made y.size y.made (bit_is u.local k);
    }

-- ---- a record

bytes_from_lem : (n : ℕ) (bs s : List ℕ) (at : ℕ) → length bs ≡ n → BytesAt bs s at → bytes_from n s at ≡ bs
bytes_from_lem n bs s at e w = ap (λ (m : ℕ). bytes_from m s at) (sym e) ∙ w.same

sixteen_stand : (bs s : List ℕ) (at : ℕ) → length bs ≡ 16 → BytesAt bs s at → bytes_at 16 s at ≡ ok (record { start = at; len = 16 }) (at + length bs)
sixteen_stand bs s at e w = rw e (bytes_stand 16 bs s at e refl w)

pub record ItemStands (r : Statistic) (s : List ℕ) (at : ℕ) : Type 0 where
  pub item : StatisticItem
  pub read : item_at s at ≡ ok item (at + length (statistic_bytes r))
  pub made : statistic_from s item ≡ cleared r

pub item_stands : (r : Statistic) (s : List ℕ) (at : ℕ) → StatisticFits r → checked_statistic r ≡ accepted tt → BytesAt (statistic_bytes r) s at → ItemStands r s at
unfolding statistic_bytes item_at then
item_stands r s at f e w =
    let k = allowed r e in
    let o = be_bytes 8 r.offset in
    let l = be_bytes 8 r.length in
    let x = io_info_bytes r.read in
    let y = io_info_bytes r.write in
    let z = update_bytes r.update in
    let rest = r.stateid ++ (x ++ (y ++ (r.device ++ z))) in
    let p1 = at + length (o ++ l) in
    let p2 = p1 + length r.stateid in
    let p3 = p2 + length x in
    let p4 = p3 + length y in
    let w' : BytesAt (o ++ l ++ rest) s at = rw (append_assoc o l rest) w in
    let a = bytes_at_parts (o ++ l) rest s at w' in
    let b = bytes_at_parts r.stateid (x ++ (y ++ (r.device ++ z))) s p1 a.1 in
    let c = bytes_at_parts x (y ++ (r.device ++ z)) s p2 b.1 in
    let d = bytes_at_parts y (r.device ++ z) s p3 c.1 in
    let g = bytes_at_parts r.device z s p4 d.1 in
    let u = update_stands r.update s (p4 + length r.device) f.update (fields r.update f.update k.lengths) (times r.update k.times) k.local g.1 in
    let i : StatisticItem = record {
      range = record { offset = r.offset; length = r.length; last = k.last };
      stateid = p1;
      read = r.read;
      write = r.write;
      device = p4;
      update = u.item;
    } in
    let all : item_at s at ≡ ok i (at + length (o ++ l ++ rest)) =
    then_stands _ _ i.range _ (o ++ l) rest s at w' (range_stands r.offset r.length k.last s at f.offset f.len k.range) λ w1.
    then_stands _ _ (record { start = p1; len = 16 }) _ _ _ s _ w1 (sixteen_stand r.stateid s _ f.stateid) λ w2.
    then_stands _ _ r.read _ _ _ s _ w2 (io_info_stands r.read s _ f.read) λ w3.
    then_stands _ _ r.write _ _ _ s _ w3 (io_info_stands r.write s _ f.write) λ w4.
    then_stands _ _ (record { start = p4; len = 16 }) _ _ _ s _ w4 (sixteen_stand r.device s _ f.device) λ w5.
    rw u.read in
    record {
      item = i;
      read = all ∙ ap (λ (bs : List ℕ). ok i (at + length bs)) (append_assoc o l rest);
      made = same_statistic r _ _ _ _ _ _ (bytes_from_lem 16 r.stateid s p1 f.stateid b.0) (bytes_from_lem 16 r.device s p4 f.device g.0) u.made;
    }

pub statistic_stands : (r : Statistic) (s : List ℕ) (at : ℕ) → StatisticFits r → checked_statistic r ≡ accepted tt → BytesAt (statistic_bytes r) s at
    → statistic_at s at ≡ ok (cleared r) (at + length (statistic_bytes r))
unfolding statistic_at then
statistic_stands r s at f e w =
    let x = item_stands r s at f e w in
    rw x.read (ap (λ (v : Statistic). ok v (at + length (statistic_bytes r))) x.made)

-- ---- a run of records, and their count in front

pub statistics_stand : (rs : List Statistic) (s : List ℕ) (at : ℕ) → Each StatisticFits rs → checked_statistics rs ≡ accepted tt → BytesAt (statistics_bytes rs) s at
    → many_at statistic_at (length rs) s at ≡ ok (map cleared rs) (at + length (statistics_bytes rs))
unfolding many_at then checked_statistics statistics_bytes
statistics_stand [] s at f e w = let z : at + 0 ≡ at = omega arith in rw z
statistics_stand (r ∷ rs) s at f e w =
    let a = given_inv _ _ _ e in
    then_stands _ _ (cleared r) _ (statistic_bytes r) (statistics_bytes rs) s at w (statistic_stands r s at f.0 a.first) λ v.
    rw (statistics_stand rs s _ f.1 a.rest v)

pub part_stands : (rs : List Statistic) (s : List ℕ) (at : ℕ) → length rs ≤ 8 → Each StatisticFits rs → checked_statistics rs ≡ accepted tt
    → BytesAt (statistics_part rs) s at → statistics_at s at ≡ ok (map cleared rs) (at + length (statistics_part rs))
unfolding statistics_part statistics_at
part_stands rs s at n f e w =
    let c = length_be 4 (length rs) in
    then_stands _ _ (length rs) _ (be_bytes 4 (length rs)) (statistics_bytes rs) s at w
    (λ v. rw c (count_stands 0 8 (length rs) s at (omega arith) n (omega (arith, n)) v))
    (statistics_stand rs s _ f e)
