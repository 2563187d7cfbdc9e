-- `statistics::put::put_time` meets its contract: the seconds, then the nanoseconds.
use Prim.Native.Nat.{◌+◌}
use Rattle.statistics.proofs.PutLaws.{put_number, put_then}
use Rattle.statistics.specs.StatisticBytes.{time_bytes}
use mathlib.Core.Path.{refl}
use native.Mathlib.Omega.{arith}
use Rattle.statistics.proofs.put.put_time.Goals as goal

pub returns : goal.returns
unfolding time_bytes
returns c =
    let a = c.args in
    (put_then (put_number 8 a.t.seconds (a.at + 8) c.put_be8.ensures refl (omega arith))
    (put_number 4 a.t.nanoseconds (a.at + 12) c.put_be4.ensures (omega arith) (omega arith))).bytes
