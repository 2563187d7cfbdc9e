-- `statistics::put::put_netaddr` meets its contract: the netid, then the address.
use Prim.Native.Nat.{◌≤◌}
use Rattle.statistics.proofs.PutLaws.{length_netaddr, put_then}
use Rattle.statistics.proofs.StatisticLaws.{opaque_most}
use Rattle.statistics.specs.StatisticBytes.{netaddr_bytes}
use borrow.Author.Rules.{rules}
use lib.ListN.{length}
use lib.Seq.{length-take-le}
use mathlib.Core.Path.{◌≡◌, refl}
use native.Mathlib.Omega.{arith}
use Rattle.statistics.proofs.put.put_netaddr.Goals as goal

pub put_opaque-p-requires : goal.put_opaque-p-requires
put_opaque-p-requires c =
    let a = c.args.a.netid in
    let e : length c.args.a.netid.bytes ≡ 8 = search rules in
    let h : a.length ≤ length a.bytes = omega (arith, e, c.requires.0) in (
      omega (arith, length-take-le a.length a.bytes h, c.requires.0),
      omega (arith, opaque_most a.length a.bytes h 8 c.requires.0 refl, c.requires.2),
    )

pub put_opaque-requires : goal.put_opaque-requires
put_opaque-requires c =
    let a = c.args.a.text in
    let b = c.args.a.netid in
    let value = c.well_formed.1.1.0.1.1 in
    let d = value.0.1.1.1.0.1.0.1 in
    let e = value.1.0.1.1.1.0.1.0.1 in
    let h : a.length ≤ length a.bytes = omega (arith, e, c.requires.1) in
    let k : b.length ≤ length b.bytes = omega (arith, d, c.requires.0) in (
      omega (arith, length-take-le a.length a.bytes h, c.requires.1),
      omega (
        arith,
        opaque_most a.length a.bytes h 64 c.requires.1 refl,
        opaque_most b.length b.bytes k 8 c.requires.0 refl,
        c.put_opaque-p.ensures.next,
        c.requires.2,
      ),
    )

pub returns : goal.returns
unfolding netaddr_bytes
returns c =
    let a = c.args.a in
    let value = c.well_formed.1.1.0.1.1 in
    let d = value.0.1.1.1.0.1.0.1 in
    let e = value.1.0.1.1.1.0.1.0.1 in
    let both = put_then c.put_opaque-p.ensures c.put_opaque.ensures in
    (both, omega (arith, both.next, length_netaddr a d e c.requires.0 c.requires.1))
