-- What holds of the front of a body that was read: its limits, and that unit and first server count agree.
use Prim.Native.Nat.{ℕ, ◌≤◌}
use mathlib.Core.Path.{◌≡◌, sym, ap, ◌∙◌}
use mathlib.Core.Bool.{true}
use mathlib.Core.List.{List}
use native.Mathlib.Omega.{arith}
use lib.ListN.{length}
use Rattle.xdr.specs.Parsed.{ok}
use Rattle.xdr.proofs.Accepted.{count_read, pick_inv, then_inv, same_offset, same_value}
use Rattle.layout.specs.Layouts.{front_at, unit_fits}
use Rattle.layout.specs.declared.front_and_tail.Front.{Front}

pub record FrontRead (s : List ℕ) (v : Front) (p : ℕ) : Type 0 where
  pub mirrors_some : 1 ≤ v.mirrors
  pub mirrors_few : v.mirrors ≤ 8
  pub servers_some : 1 ≤ v.servers
  pub servers_few : v.servers ≤ 16
  pub fits : unit_fits v.unit v.servers ≡ true
  pub within : p ≤ length s

pub front_read : (s : List ℕ) (at : ℕ) (v : Front) (p : ℕ) → front_at s at ≡ ok v p → FrontRead s v p
unfolding front_at
front_read s at v p h =
    let u = then_inv _ _ v p h in
    let m = then_inv _ _ v p u.rest in
    let mc = count_read 1 8 s u.next m.item m.next m.first in
    let n = then_inv _ _ v p m.rest in
    let nc = count_read 1 16 s m.next n.item n.next n.first in
    let t = pick_inv _ _ 10 v p n.rest in
    let e = same_value t.chosen in
    let f : n.next ≡ p = same_offset t.chosen in
    let em : m.item ≡ v.mirrors = ap (λ (x : Front). x.mirrors) e in
    let en : n.item ≡ v.servers = ap (λ (x : Front). x.servers) e in
    record {
      mirrors_some = omega (arith, mc.low, em);
      mirrors_few = omega (arith, mc.high, em);
      servers_some = omega (arith, nc.low, en);
      servers_few = omega (arith, nc.high, en);
      fits = ap (λ (x : Front). unit_fits x.unit x.servers) (sym e) ∙ t.test;
      within = omega (arith, nc.number.within, f);
    }
