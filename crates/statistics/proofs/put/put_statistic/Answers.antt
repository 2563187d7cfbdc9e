-- `statistics::put::put_statistic` meets its contract: the range, the stateid, the counts, the device id, the update.
use Prim.Native.Nat.{◌+◌}
use Rattle.statistics.proofs.PutLaws.{put_fits, put_sized, put_number, put_then}
use Rattle.statistics.proofs.StatisticLaws.{length_io_info}
use Rattle.statistics.specs.StatisticBytes.{io_info_bytes, statistic_bytes}
use mathlib.Core.Path.{refl}
use native.Mathlib.Omega.{arith}
use Rattle.statistics.proofs.put.put_statistic.Goals as goal

pub returns : goal.returns
unfolding statistic_bytes
returns c =
    let at = c.args.at in
    let r = c.args.r in
    let value = c.well_formed.1.1.0.1.1 in
    let room = c.requires.1 in
    let stateid = value.1.1.0.1.0.1 in
    let device = value.1.1.1.1.1.0.1.0.1 in (
      put_then (put_number 8 r.offset (at + 8) c.put_be8.ensures refl (omega (arith, room)))
          (put_then (put_number 8 r.length (at + 16) c.put_be8-2.ensures (omega arith) (omega (arith, room)))
          (put_then (put_fits r.stateid 16 (at + 32) c.put_bytes.ensures stateid (omega arith) (omega (arith, room)))
          (put_then (put_sized (io_info_bytes r.read) 16 (at + 48) c.put_io_info.ensures (length_io_info r.read) (omega arith))
          (put_then (put_sized (io_info_bytes r.write) 16 (at + 64) c.put_io_info-2.ensures (length_io_info r.write) (omega arith))
          (put_then (put_fits r.device 16 (at + 80) c.put_bytes-2.ensures device (omega arith) (omega (arith, room)))
          c.put_update.ensures.0))))),
      omega (arith, c.put_update.ensures.1),
    )
