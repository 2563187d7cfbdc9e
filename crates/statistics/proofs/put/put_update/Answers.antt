-- `statistics::put::put_update` meets its contract: the place, two latencies, the duration, the local flag.
use Prim.Native.Nat.{◌+◌}
use Rattle.statistics.proofs.PutLaws.{put_after_two, put_sized, put_number, put_then}
use Rattle.statistics.proofs.StatisticLaws.{length_latency, length_time}
use Rattle.statistics.specs.StatisticBytes.{latency_bytes, netaddr_bytes, time_bytes, update_bytes}
use Rattle.xdr.specs.Items.{opaque_bytes}
use lib.ListN.{take}
use mathlib.Core.Path.{refl}
use native.Mathlib.Omega.{arith}
use Rattle.statistics.proofs.put.put_update.Goals as goal

pub returns : goal.returns
unfolding update_bytes
returns c =
    let u = c.args.u in
    let q = c.put_place-q.result in
    let place = c.put_place-q.ensures in (
      put_after_two (netaddr_bytes u.address) (opaque_bytes (take u.filehandle.length u.filehandle.bytes)) place.0
          (put_then (put_sized (latency_bytes u.read) 64 (q + 64) c.put_latency.ensures (length_latency u.read) refl)
          (put_then (put_sized (latency_bytes u.write) 64 (q + 128) c.put_latency-2.ensures (length_latency u.write) (omega arith))
          (put_then (put_sized (time_bytes u.duration) 12 (q + 128 + 12) c.put_time.ensures (length_time u.duration) refl)
          (put_number 4 u.local (q + 128 + 12 + 4) c.put_be4.ensures refl
          (omega (arith, c.requires.1, place.1)))))),
      omega (arith, place.1),
    )
