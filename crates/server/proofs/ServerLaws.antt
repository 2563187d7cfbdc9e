-- What is at the start of a data server that was read, and that it ends inside the bytes.
use Prim.Native.Nat.{ℕ, ◌+◌, ◌≤◌}
use mathlib.Core.Path.{◌≡◌, sym, ap, ◌∙◌}
use mathlib.Core.List.{List}
use native.Mathlib.Omega.{arith}
use lib.ListN.{length}
use Rattle.octets.specs.Numbers.{bytes_from, be_value}
use Rattle.xdr.specs.Parsed.{ok}
use Rattle.xdr.specs.declared.Part.{Part}
use Rattle.xdr.proofs.Accepted.{then_inv, same_offset, same_value, number_read, count_read, bytes_read, opaque_read}
use Rattle.server.specs.Servers.{server_efficiency_offset, server_handles_offset, server_head_at, server_at, server_stateid_offset}
use Rattle.server.specs.declared.head.ServerHead.{ServerHead}
use Rattle.server.specs.declared.item.Server.{Server}

-- the device id is at the start, then the efficiency, the stateid and the number of filehandles
pub record Head (s : List ℕ) (at : ℕ) (v : ServerHead) (p : ℕ) : Type 0 where
  pub device : v.device ≡ at
  pub efficiency : v.efficiency ≡ be_value (bytes_from 4 s (at + server_efficiency_offset))
  pub stateid : v.stateid ≡ at + server_stateid_offset
  pub handles : v.handles ≡ be_value (bytes_from 4 s (at + server_handles_offset))
  pub some : 1 ≤ v.handles
  pub few : v.handles ≤ 8
  pub end : p ≡ at + 40
  pub within : p ≤ length s

pub head_read : (s : List ℕ) (at : ℕ) (v : ServerHead) (p : ℕ) → server_head_at s at ≡ ok v p → Head s at v p
unfolding server_head_at
head_read s at v p h =
    let d = then_inv _ _ v p h in
    let db = bytes_read 16 s at d.item d.next d.first in
    let e = then_inv _ _ v p d.rest in
    let en = number_read 4 s d.next e.item e.next e.first in
    let t = then_inv _ _ v p e.rest in
    let tb = bytes_read 16 s e.next t.item t.next t.first in
    let n = then_inv _ _ v p t.rest in
    let nc = count_read 1 8 s t.next n.item n.next n.first in
    let f : n.next ≡ p = same_offset n.rest in
    let g = same_value n.rest in
    let q1 : d.next ≡ at + server_efficiency_offset = omega (arith, db.end) in
    let q2 : e.next ≡ at + server_stateid_offset = omega (arith, en.end) in
    let q3 : t.next ≡ at + server_handles_offset = omega (arith, tb.end) in
    let hv : n.item ≡ v.handles = ap (λ (x : ServerHead). x.handles) g in
    record {
      device = ap (λ (x : ServerHead). x.device) (sym g) ∙ ap (λ (x : Part). x.start) db.value;
      efficiency = ap (λ (x : ServerHead). x.efficiency) (sym g) ∙ en.value ∙ ap (λ (q : ℕ). be_value (bytes_from 4 s q)) q1;
      stateid = ap (λ (x : ServerHead). x.stateid) (sym g) ∙ ap (λ (x : Part). x.start) tb.value ∙ q2;
      handles = sym hv ∙ nc.number.value ∙ ap (λ (q : ℕ). be_value (bytes_from 4 s q)) q3;
      some = omega (arith, nc.low, hv);
      few = omega (arith, nc.high, hv);
      end = omega (arith, nc.number.end, q3, f);
      within = omega (arith, nc.number.within, f);
    }

pub record Read (s : List ℕ) (at : ℕ) (v : Server) (p : ℕ) : Type 0 where
  pub device : v.device ≡ at
  pub efficiency : v.efficiency ≡ be_value (bytes_from 4 s (at + server_efficiency_offset))
  pub stateid : v.stateid ≡ at + server_stateid_offset
  pub handles : v.handles ≡ be_value (bytes_from 4 s (at + server_handles_offset))
  pub some : 1 ≤ v.handles
  pub few : v.handles ≤ 8
  pub first : v.first_handle ≡ at + 40
  pub inside : at + 40 ≤ length s
  pub within : p ≤ length s

pub server_read : (s : List ℕ) (at : ℕ) (v : Server) (p : ℕ) → server_at s at ≡ ok v p → Read s at v p
unfolding server_at
server_read s at v p h =
    let d = then_inv _ _ v p h in
    let k = head_read s at d.item d.next d.first in
    let n = then_inv _ _ v p d.rest in
    let u = then_inv _ _ v p n.rest in
    let g = then_inv _ _ v p u.rest in
    let gr = opaque_read 0 64 s u.next g.item g.next g.first in
    let f : g.next ≡ p = same_offset g.rest in
    let e = same_value g.rest in
    record {
      device = ap (λ (x : Server). x.device) (sym e) ∙ k.device;
      efficiency = ap (λ (x : Server). x.efficiency) (sym e) ∙ k.efficiency;
      stateid = ap (λ (x : Server). x.stateid) (sym e) ∙ k.stateid;
      handles = ap (λ (x : Server). x.handles) (sym e) ∙ k.handles;
      some = omega (arith, k.some, ap (λ (x : Server). x.handles) e);
      few = omega (arith, k.few, ap (λ (x : Server). x.handles) e);
      first = ap (λ (x : Server). x.first_handle) (sym e) ∙ k.end;
      inside = omega (arith, k.within, k.end);
      within = omega (arith, gr.bytes.within, f);
    }
