-- `statistics::put::put_place` meets its contract: the address, then the filehandle.
use Prim.Native.Nat.{◌≤◌}
use Rattle.statistics.proofs.PutLaws.{lengths_in, put_then}
use Rattle.statistics.proofs.StatisticLaws.{opaque_most}
use lib.ListN.{length}
use lib.Seq.{length-take-le}
use mathlib.Core.Path.{refl}
use native.Mathlib.Omega.{arith}
use Rattle.statistics.proofs.put.put_place.Goals as goal

pub put_netaddr-p-requires : goal.put_netaddr-p-requires
put_netaddr-p-requires c =
    let i = lengths_in c.args.u c.requires.0 in
    (i.netid, i.text, omega (arith, c.requires.1))

pub put_opaque-requires : goal.put_opaque-requires
put_opaque-requires c =
    let f = c.args.u.filehandle in
    let few = (lengths_in c.args.u c.requires.0).filehandle in
    let e = c.well_formed.1.1.0.1.1.1.0.1.1.1.0.1.0.1 in
    let h : f.length ≤ length f.bytes = omega (arith, e, few) in (
      omega (arith, length-take-le f.length f.bytes h, few),
      omega (arith, opaque_most f.length f.bytes h 128 few refl, c.put_netaddr-p.ensures.1, c.requires.1),
    )

pub returns : goal.returns
returns c =
    let f = c.args.u.filehandle in
    let few = (lengths_in c.args.u c.requires.0).filehandle in
    let e = c.well_formed.1.1.0.1.1.1.0.1.1.1.0.1.0.1 in
    let h : f.length ≤ length f.bytes = omega (arith, e, few) in (
      put_then c.put_netaddr-p.ensures.0 c.put_opaque.ensures,
      omega (arith, opaque_most f.length f.bytes h 128 few refl, c.put_netaddr-p.ensures.1, c.put_opaque.ensures.next),
    )
