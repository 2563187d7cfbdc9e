-- `statistics::put::put_opaque` meets its contract: the length, the bytes, the padding.
use Prim.Native.Nat.{◌+◌, ◌≤◌}
use Rattle.statistics.proofs.PutLaws.{put_fits, put_number, put_then}
use Rattle.xdr.proofs.ItemsAtLaws.{length_opaque}
use Rattle.xdr.specs.Items.{opaque_bytes, padding}
use lib.ListN.{length, replicate, length-replicate}
use mathlib.Core.Path.{refl}
use native.Mathlib.Omega.{arith}
use Rattle.statistics.proofs.put.put_opaque.Goals as goal

pub returns : goal.returns
unfolding opaque_bytes
returns c =
    let at = c.args.at in
    let bs = c.args.src.now in
    let n = length bs in
    let room : at + (4 + n + padding n) ≤ length c.args.out.now = omega (arith, c.requires.1, length_opaque bs) in
    put_then (put_number 4 n (at + 4) c.put_be4.ensures refl (omega (arith, room)))
    (put_then (put_fits bs n (at + 4 + n) c.put_bytes.ensures refl refl (omega (arith, room)))
    (put_fits (replicate (padding n) 0) (padding n) (at + 4 + n + padding n) c.put_zeros.ensures (length-replicate (padding n) 0) refl (omega (arith, room))))
