-- `statistics::put::put_latency` meets its contract: five numbers, then two times.
use Prim.Native.Nat.{◌+◌}
use Rattle.statistics.proofs.PutLaws.{put_sized, put_number, put_then}
use Rattle.statistics.proofs.StatisticLaws.{length_time}
use Rattle.statistics.specs.StatisticBytes.{latency_bytes, time_bytes}
use mathlib.Core.Path.{refl}
use native.Mathlib.Omega.{arith}
use Rattle.statistics.proofs.put.put_latency.Goals as goal

pub returns : goal.returns
unfolding latency_bytes
returns c =
    let a = c.args in
    let at = a.at in
    let l = a.l in
    (put_then (put_number 8 l.ops_requested (at + 8) c.put_be8.ensures refl (omega arith))
    (put_then (put_number 8 l.bytes_requested (at + 16) c.put_be8-2.ensures (omega arith) (omega arith))
    (put_then (put_number 8 l.ops_completed (at + 24) c.put_be8-3.ensures (omega arith) (omega arith))
    (put_then (put_number 8 l.bytes_completed (at + 32) c.put_be8-4.ensures (omega arith) (omega arith))
    (put_then (put_number 8 l.bytes_not_delivered (at + 40) c.put_be8-5.ensures (omega arith) (omega arith))
    (put_then (put_sized (time_bytes l.busy) 12 (at + 52) c.put_time.ensures (length_time l.busy) (omega arith))
    (put_sized (time_bytes l.completion) 12 (at + 64) c.put_time-2.ensures (length_time l.completion) (omega arith)))))))).bytes
