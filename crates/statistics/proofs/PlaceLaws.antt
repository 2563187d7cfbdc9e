-- Laws of a record's bytes by their places: what fills an array, and that what was read is inside the body.
use Prim.Native.Nat.{ℕ, ◌+◌, ◌-◌, ◌≤◌}
use mathlib.Core.Path.{◌≡◌, ap, ◌∙◌}
use mathlib.Core.List.{List}
use native.Mathlib.Omega.{arith}
use lib.ListN.{length, replicate, take, drop, length-replicate}
use Rattle.base.specs.Lists.{padded}
use Rattle.base.proofs.ListLaws.{filled_is_padded, padded_whole}
use Rattle.octets.specs.Buffers.{stored}
use Rattle.octets.specs.Numbers.{bytes_from}
use Rattle.octets.proofs.NumberLaws.{length_bytes}
use Rattle.octets.proofs.StoredLaws.{fits_stored}
use Rattle.xdr.specs.Items.{bytes_at, opaque_at}
use Rattle.xdr.specs.Parsed.{ok}
use Rattle.xdr.specs.declared.Part.{Part}
use Rattle.xdr.proofs.Accepted.{bytes_read, opaque_read, opaque_within, then_inv, same_value}
use Rattle.statistics.specs.Statistics.{item_at, netaddr_at, update_at}
use Rattle.statistics.specs.Inside.{ItemInside, NetaddrInside, PartInside, UpdateInside}
use Rattle.statistics.specs.declared.updates.NetaddrItem.{NetaddrItem}
use Rattle.statistics.specs.declared.updates.UpdateItem.{UpdateItem}
use Rattle.statistics.specs.declared.item.StatisticItem.{StatisticItem}

-- ---- what fills an array of zeros

filled : (n k : ℕ) (s : List ℕ) (at : ℕ) → k ≤ n → at + k ≤ length s → stored (replicate n 0) 0 (take (at + k - at) (drop at s)) ≡ padded n 0 (bytes_from k s at)
filled n k s at h r =
    let e : at + k - at ≡ k = omega arith in
    let m = length_bytes k s at r in
    let z = length-replicate {A = ℕ} n 0 in
    rw (e, fits_stored (replicate n 0) 0 (bytes_from k s at) (omega (arith, m, z))) (filled_is_padded n 0 (bytes_from k s at) (omega (arith, m)))

pub part_filled : (n : ℕ) (s : List ℕ) (p : Part) → PartInside n s p
    → stored (replicate n 0) 0 (take (p.start + p.len - p.start) (drop p.start s)) ≡ padded n 0 (bytes_from p.len s p.start)
part_filled n s p h = filled n p.len s p.start h.few h.room

pub sixteen_filled : (s : List ℕ) (at : ℕ) → at + 16 ≤ length s → stored (replicate 16 0) 0 (take (at + 16 - at) (drop at s)) ≡ bytes_from 16 s at
sixteen_filled s at r = filled 16 16 s at (omega arith) r ∙ padded_whole 16 0 (bytes_from 16 s at) (length_bytes 16 s at r)

-- ---- what was read is inside

part_inside : (most : ℕ) (s : List ℕ) (at : ℕ) (v : Part) (p : ℕ) → opaque_at 1 most s at ≡ ok v p → PartInside most s v
part_inside most s at v p h = record { few = (opaque_read 1 most s at v p h).count.high; room = opaque_within 1 most s at v p h }

netaddr_inside : (s : List ℕ) (at : ℕ) (i : NetaddrItem) (p : ℕ) → netaddr_at s at ≡ ok i p → NetaddrInside s i
unfolding netaddr_at
netaddr_inside s at i p h =
    let a = then_inv _ _ _ _ h in
    let b = then_inv _ _ _ _ a.rest in
    rw (← same_value b.rest) (record { netid = part_inside 8 s _ _ _ a.first; text = part_inside 64 s _ _ _ b.first })

update_inside : (s : List ℕ) (at : ℕ) (i : UpdateItem) (p : ℕ) → update_at s at ≡ ok i p → UpdateInside s i
unfolding update_at
update_inside s at i p h =
    let a = then_inv _ _ _ _ h in
    let f = then_inv _ _ _ _ a.rest in
    let r = then_inv _ _ _ _ f.rest in
    let w = then_inv _ _ _ _ r.rest in
    let d = then_inv _ _ _ _ w.rest in
    let l = then_inv _ _ _ _ d.rest in
    rw (← same_value l.rest) (record { address = netaddr_inside s _ _ _ a.first; filehandle = part_inside 128 s _ _ _ f.first })

sixteen_inside : (s : List ℕ) (at : ℕ) (v : Part) (p : ℕ) → bytes_at 16 s at ≡ ok v p → v.start + 16 ≤ length s
sixteen_inside s at v p h =
    let w = bytes_read 16 s at v p h in
    let e = ap (λ (x : Part). x.start) w.value in
    omega (arith, w.end, w.within, e)

pub item_inside : (s : List ℕ) (at : ℕ) (i : StatisticItem) (p : ℕ) → item_at s at ≡ ok i p → ItemInside s i
unfolding item_at
item_inside s at i p h =
    let a = then_inv _ _ _ _ h in
    let t = then_inv _ _ _ _ a.rest in
    let r = then_inv _ _ _ _ t.rest in
    let w = then_inv _ _ _ _ r.rest in
    let d = then_inv _ _ _ _ w.rest in
    let u = then_inv _ _ _ _ d.rest in
    rw (← same_value u.rest)
    (record {
      stateid = sixteen_inside s _ _ _ t.first;
      device = sixteen_inside s _ _ _ d.first;
      update = update_inside s _ _ _ u.first;
    })
