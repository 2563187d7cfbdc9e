-- What holds of an accepted body: its limits, which index of the array has which start, and that a data server is there. Other entries are 0.
use Prim.Native.Nat.{ℕ, zero, suc, ◌+◌, ◌-◌, ◌*◌, ◌≤◌, ◌<◌}
use mathlib.Core.Path.{◌≡◌, refl, sym, ap, ◌∙◌}
use mathlib.Core.Logic.{◌⊎◌, ⊎_elim}
use mathlib.Core.Bool.{true}
use mathlib.Core.List.{List, [], ◌∷◌, map}
use native.Mathlib.Decide.{dec_lt}
use native.Mathlib.Omega.{arith}
use borrow.Author.Tests.{le-leb, le-ltb, lt-ltb}
use lib.ListN.{length, get_or, length-map, get_or-append, get_or-eq_default}
use lib.Seq.{get_or-append-add}
use Rattle.base.specs.Answer.{accepted, pick}
use Rattle.base.specs.Lists.{Each, padded}
use Rattle.base.proofs.ListLaws.{each_at, each_map, length_padded, padded_at}
use Rattle.base.proofs.AnswerLaws.{pick_accepted, pick_true}
use Rattle.octets.specs.Numbers.{be_at}
use Rattle.octets.proofs.NumberLaws.{be_there}
use Rattle.xdr.specs.Parsed.{ok, many_at}
use Rattle.xdr.proofs.Accepted.{number_read, pick_inv, then_inv, same_offset, same_value, whole_read}
use Rattle.xdr.proofs.ManyLaws.{many_each}
use Rattle.server.specs.Servers.{server_at}
use Rattle.server.specs.declared.item.Server.{Server}
use Rattle.server.proofs.ServerLaws.{server_read}
use Rattle.layout.specs.Layouts.{Layout, flags_at_end, front_at, layout_at, layout_body, mirror_at, mirrors_at, rows, start_at, starts_of, tail_at, unit_fits}
use Rattle.layout.specs.declared.front_and_tail.Front.{Front}
use Rattle.layout.specs.declared.front_and_tail.Tail.{Tail}
use Rattle.layout.proofs.FrontLaws.{front_read}
use Rattle.layout.proofs.StartTableLaws.{HasServers, mirrors_have}

-- ---- the parts of an accepted body

pub record Parts (s : List ℕ) (l : Layout) : Type 0 where
  pub front : Front
  pub p1 : ℕ
  pub front_read : front_at s 0 ≡ ok front p1
  pub mirrors : List (List Server)
  pub p2 : ℕ
  pub mirrors_read : mirrors_at front.mirrors front.servers s p1 ≡ ok mirrors p2
  pub tail : Tail
  pub tail_read : tail_at s p2 ≡ ok tail (length s)
  pub whole : record {
    summary = record { unit = front.unit; mirrors = front.mirrors; servers = front.servers; flags = tail.flags; hint = tail.hint };
    starts = starts_of mirrors;
  } ≡ l

pub accepted_parts : (s : List ℕ) (l : Layout) → layout_body s ≡ accepted l → Parts s l
unfolding layout_body layout_at
accepted_parts s l e =
    let w = whole_read s (layout_at s) l (pick_accepted _ _ 8 l e).1 in
    let f = then_inv _ _ l (length s) w in
    let m = then_inv _ _ l (length s) f.rest in
    let t = then_inv _ _ l (length s) m.rest in
    record {
      front = f.item;
      p1 = f.next;
      front_read = f.first;
      mirrors = m.item;
      p2 = m.next;
      mirrors_read = m.first;
      tail = t.item;
      tail_read = t.first ∙ ap (λ (q : ℕ). ok t.item q) (same_offset t.rest);
      whole = same_value t.rest;
    }

-- "1 to 8 mirrors; 1 to 16 servers a mirror", and the unit's rule
pub record Limits (l : Layout) : Type 0 where
  pub mirrors_some : 1 ≤ l.summary.mirrors
  pub mirrors_few : l.summary.mirrors ≤ 8
  pub servers_some : 1 ≤ l.summary.servers
  pub servers_few : l.summary.servers ≤ 16
  pub unit_fits_lem : unit_fits l.summary.unit l.summary.servers ≡ true

pub accepted_limits : (s : List ℕ) (l : Layout) → layout_body s ≡ accepted l → Limits l
accepted_limits s l e =
    let p = accepted_parts s l e in
    let f = front_read s 0 p.front p.p1 p.front_read in
    rw (← p.whole)
    (record {
      mirrors_some = f.mirrors_some;
      mirrors_few = f.mirrors_few;
      servers_some = f.servers_some;
      servers_few = f.servers_few;
      unit_fits_lem = f.fits;
    })

-- ---- the flags

-- the flags of an accepted body are eight bytes before its end
pub flags_at_end_lem : (s : List ℕ) (l : Layout) → layout_body s ≡ accepted l → flags_at_end s ≡ l.summary.flags
unfolding flags_at_end tail_at
flags_at_end_lem s l h =
    let p = accepted_parts s l h in
    let f = then_inv _ _ p.tail (length s) p.tail_read in
    let t = then_inv _ _ p.tail (length s) (pick_inv _ _ 11 p.tail (length s) f.rest).chosen in
    let flags = number_read 4 s p.p2 f.item f.next f.first in
    let hint = number_read 4 s f.next t.item t.next t.first in
    let end : t.next ≡ length s = same_offset t.rest in
    let at : length s - 8 ≡ p.p2 = omega (arith, flags.end, hint.end, end) in
    pick_true _ _ _ (le-leb 8 (length s) (omega (arith, flags.end, hint.end, end)))
    ∙ (ap (be_at 4 s) at
    ∙ (be_there 4 s p.p2 (omega (arith, flags.end, flags.within))
    ∙ (sym flags.value
    ∙ (ap (λ (x : Tail). x.flags) (same_value t.rest) ∙ ap (λ (x : Layout). x.summary.flags) p.whole))))

-- ---- a place of the table

row_length : (m : List Server) → length m ≤ 16 → length (padded 16 0 (map (λ v. v.device) m)) ≡ 16
row_length m h = length_padded 16 0 (map (λ v. v.device) m) (omega (arith, length-map m (λ (v : Server). v.device)))

rows_at : (ms : List (List Server)) → ((j : ℕ) → length (get_or ms j []) ≤ 16) → (m k : ℕ) → k < 16
    → get_or (rows ms) (m * 16 + k) 0 ≡ get_or (map (λ v. v.device) (get_or ms m [])) k 0
unfolding rows
rows_at [] few m k small = refl
rows_at (row ∷ ms) few zero k small =
    let e : 0 * 16 + k ≡ k = omega arith in
    let lr : k < length (padded 16 0 (map (λ v. v.device) row)) = omega (arith, row_length row (few 0)) in
    rw (e, get_or-append (padded 16 0 (map (λ v. v.device) row)) (rows ms) 0 k lr) (padded_at 16 0 (map (λ v. v.device) row) k)
rows_at (row ∷ ms) few (suc m) k small =
    let first = padded 16 0 (map (λ v. v.device) row) in
    let e : suc m * 16 + k ≡ length first + (m * 16 + k) = omega (arith, row_length row (few 0)) in
    rw (e, get_or-append-add first (rows ms) (m * 16 + k) 0) (rows_at ms (λ j. few (suc j)) m k small)

-- mirror times 16 plus stripe is the index of a server's start
pub starts_at : (ms : List (List Server)) → ((j : ℕ) → length (get_or ms j []) ≤ 16) → (m k : ℕ) → k < 16
    → get_or (starts_of ms) (m * 16 + k) 0 ≡ get_or (map (λ v. v.device) (get_or ms m [])) k 0
unfolding starts_of
starts_at ms few m k small = padded_at 128 0 (rows ms) (m * 16 + k) ∙ rows_at ms few m k small

row_has : (n : ℕ) (ms : List (List Server)) → Each (HasServers n) ms → (m : ℕ) → length (get_or ms m []) ≤ n
row_has n [] each m = omega arith
row_has n (row ∷ ms) each zero = omega (arith, each.0)
row_has n (row ∷ ms) each (suc m) = row_has n ms each.1 m

-- ---- the data server at a start

-- a data server was read at this offset
pub record ServerReadAt (s : List ℕ) (at : ℕ) : Type 0 where
  pub server : Server
  pub next : ℕ
  pub read : server_at s at ≡ ok server next

moved : {s : List ℕ} {a b : ℕ} → a ≡ b → ServerReadAt s a → ServerReadAt s b
moved {s} g i = record { server = i.server; next = i.next; read = ap (λ (x : ℕ). server_at s x) (sym g) ∙ i.read }

-- the starts of a mirror's servers
abbrev pub starts : List Server → List ℕ
starts m = map (λ v. v.device) m

-- each of a mirror's servers is where its start says
abbrev ServersReadAt : List ℕ → List Server → Type 0
ServersReadAt s m = Each (ServerReadAt s) (starts m)

servers_stand : (n : ℕ) (s : List ℕ) (at : ℕ) (m : List Server) (p : ℕ) → many_at server_at n s at ≡ ok m p → ServersReadAt s m
servers_stand n s at m p e =
    each_map (λ v. v.device) (ServerReadAt s) m (many_each server_at s (λ v. ServerReadAt s v.device) stands n at m p e) where
      stands : (at : ℕ) (v : Server) (p : ℕ) → server_at s at ≡ ok v p → ServerReadAt s v.device
      stands at v p e = moved (sym (server_read s at v p e).device) (record { server = v; next = p; read = e })

mirror_stands : (n : ℕ) (s : List ℕ) (at : ℕ) (m : List Server) (p : ℕ) → mirror_at n s at ≡ ok m p → ServersReadAt s m
unfolding mirror_at
mirror_stands n s at m p e =
    let r = then_inv _ _ m p e in
    servers_stand n s r.next m p (pick_inv _ _ 9 m p r.rest).chosen

mirrors_stand : (mirrors servers : ℕ) (s : List ℕ) (at : ℕ) (ms : List (List Server)) (p : ℕ) → mirrors_at mirrors servers s at ≡ ok ms p
    → Each (ServersReadAt s) ms
unfolding mirrors_at
mirrors_stand mirrors servers s at ms p e =
    let r = then_inv _ _ ms p e in
    let t = then_inv _ _ ms p r.rest in
    let first = servers_stand servers s at r.item r.next r.first in
    let others = many_each (mirror_at servers) s (ServersReadAt s) (mirror_stands servers s) (mirrors - 1) r.next t.item t.next t.first in
    rw (← same_value t.rest) (first, others)

all_stand : (mirrors servers : ℕ) (s : List ℕ) (at : ℕ) (ms : List (List Server)) (p : ℕ) → 1 ≤ mirrors → mirrors_at mirrors servers s at ≡ ok ms p
    → (m k : ℕ) → m < mirrors → k < servers → ServerReadAt s (get_or (starts (get_or ms m [])) k 0)
all_stand mirrors servers s at ms p some e m k hm hk =
    let r = mirrors_have mirrors servers s at ms p some e in
    let i : m < length ms = omega (arith, r.count) in
    let row = get_or ms m [] in
    let long : length row ≡ servers = each_at (HasServers servers) ms m [] r.each i in
    let j : k < length (starts row) = omega (arith, length-map row (λ (v : Server). v.device)) in
    each_at (ServerReadAt s) (starts row) k 0 (each_at (ServersReadAt s) ms m [] (mirrors_stand mirrors servers s at ms p e) i) j

-- ---- one start out of the table

module _ (table : List ℕ) (m k : ℕ) where
  -- a stripe's start is at mirror times 16 plus stripe
  pub start_at_lem : k < 16 → start_at table m k ≡ get_or table (m * 16 + k) 0
  unfolding start_at pick
  start_at_lem h = rw (lt-ltb k 16 h)

  pub no_start_of_stripe : 16 ≤ k → start_at table m k ≡ 0
  unfolding start_at pick
  no_start_of_stripe h = rw (le-ltb k 16 h)

  pub no_start_of_mirror : length table ≡ 128 → 8 ≤ m → start_at table m k ≡ 0
  no_start_of_mirror e h = go (dec_lt k 16)
    where
      go : Dec (k < 16) → start_at table m k ≡ 0
      go (yes s) = start_at_lem s ∙ get_or-eq_default table 0 (omega arith)
      go (no s) = no_start_of_stripe (omega arith)

-- the index of mirror m and stripe k in the table
offset_of : (s : List ℕ) (l : Layout) (h : layout_body s ≡ accepted l) (m k : ℕ) → k < 16
    → get_or l.starts (m * 16 + k) 0 ≡ get_or (starts (get_or (accepted_parts s l h).mirrors m [])) k 0
offset_of s l h m k small =
    let p = accepted_parts s l h in
    let f = front_read s 0 p.front p.p1 p.front_read in
    let r = mirrors_have p.front.mirrors p.front.servers s p.p1 p.mirrors p.p2 f.mirrors_some p.mirrors_read in
    ap (λ (x : Layout). get_or x.starts (m * 16 + k) 0) (sym p.whole)
    ∙ starts_at p.mirrors (λ j. let few = row_has p.front.servers p.mirrors r.each j in omega (arith, few, f.servers_few)) m k small

-- at each used start is a data server: its device id there, efficiency 16 bytes on, stateid 20, filehandle count 36 (`server_read`)
pub start_is_at : (s : List ℕ) (l : Layout) → layout_body s ≡ accepted l
    → (m k : ℕ) → m < l.summary.mirrors → k < l.summary.servers → ServerReadAt s (start_at l.starts m k)
start_is_at s l h m k hm hk =
    let p = accepted_parts s l h in
    let n = accepted_limits s l h in
    let em : p.front.mirrors ≡ l.summary.mirrors = ap (λ (x : Layout). x.summary.mirrors) p.whole in
    let en : p.front.servers ≡ l.summary.servers = ap (λ (x : Layout). x.summary.servers) p.whole in
    let i = all_stand p.front.mirrors p.front.servers s p.p1 p.mirrors p.p2 (omega (arith, n.mirrors_some)) p.mirrors_read m k (omega arith) (omega arith) in
    let few : k < 16 = omega (arith, n.servers_few) in
    let g = start_at_lem l.starts m k few ∙ offset_of s l h m k few in
    moved (sym g) i

-- ---- unused places

-- an index beyond the mirrors, or beyond a mirror's servers, holds 0
pub start_unused : (s : List ℕ) (l : Layout) → layout_body s ≡ accepted l
    → (m k : ℕ) → k < 16 → (l.summary.mirrors ≤ m) ⊎ (l.summary.servers ≤ k) → start_at l.starts m k ≡ 0
start_unused s l h m k small beyond =
    let p = accepted_parts s l h in
    let f = front_read s 0 p.front p.p1 p.front_read in
    let r = mirrors_have p.front.mirrors p.front.servers s p.p1 p.mirrors p.p2 f.mirrors_some p.mirrors_read in
    let em : p.front.mirrors ≡ l.summary.mirrors = ap (λ (x : Layout). x.summary.mirrors) p.whole in
    let en : p.front.servers ≡ l.summary.servers = ap (λ (x : Layout). x.summary.servers) p.whole in
    let row = get_or p.mirrors m [] in
    let short : length row ≤ p.front.servers = row_has p.front.servers p.mirrors r.each m in
    let len : length (starts row) ≡ length row = length-map row (λ (v : Server). v.device) in
    let none : length (starts row) ≤ k =
    ⊎_elim
    (λ b. let z : length p.mirrors ≤ m = omega (arith, r.count) in let e : row ≡ [] = get_or-eq_default p.mirrors [] z in omega (arith, ap length e))
    (λ b. omega arith)
    beyond in
    start_at_lem l.starts m k small ∙ offset_of s l h m k small ∙ get_or-eq_default (starts row) 0 none
