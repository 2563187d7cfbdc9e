-- `statistics::put::put_io_info` meets its contract: the count, then the bytes.
use Prim.Native.Nat.{◌+◌}
use Rattle.statistics.proofs.PutLaws.{put_number, put_then}
use Rattle.statistics.specs.StatisticBytes.{io_info_bytes}
use mathlib.Core.Path.{refl}
use native.Mathlib.Omega.{arith}
use Rattle.statistics.proofs.put.put_io_info.Goals as goal

pub returns : goal.returns
unfolding io_info_bytes
returns c =
    let a = c.args in
    (put_then (put_number 8 a.i.count (a.at + 8) c.put_be8.ensures refl (omega arith))
    (put_number 8 a.i.bytes (a.at + 16) c.put_be8-2.ensures (omega arith) (omega arith))).bytes
