-- The table that the loops fill, started from zeros, is the definition's: rows of 16 entries a mirror, then zeros.
use Prim.Native.Nat.{ℕ, suc, ◌+◌, ◌-◌, ◌*◌, ◌≤◌}
use mathlib.Core.Path.{◌≡◌, refl, sym, ap, ◌∙◌}
use mathlib.Core.List.{List, [], ◌∷◌, ◌++◌, map, append_assoc}
use native.Mathlib.Omega.{arith}
use lib.ListN.{length, replicate, length-append, length-map}
use lib.Seq.{sets}
use Rattle.base.specs.Lists.{Each, padded}
use Rattle.base.proofs.ListLaws.{length_padded, padded_first, sets_behind}
use Rattle.xdr.specs.Parsed.{Parsed, ok, fault, then}
use Rattle.xdr.proofs.Accepted.{pick_inv, then_inv, same_value}
use Rattle.xdr.proofs.ManyLaws.{many_each, many_length}
use Rattle.server.specs.Servers.{server_at}
use Rattle.server.specs.declared.item.Server.{Server}
use Rattle.layout.specs.Layouts.{mirror_at, mirrors_at, rows, starts_of}
use Rattle.layout.specs.Starts.{set_rows, with_mirrors}

-- ---- lengths

-- a row of n servers
abbrev pub HasServers : ℕ → List Server → Type 0
HasServers n m = length m ≡ n

pub mirror_has : (n : ℕ) (s : List ℕ) (at : ℕ) (m : List Server) (p : ℕ) → mirror_at n s at ≡ ok m p → HasServers n m
unfolding mirror_at
mirror_has n s at m p e =
    let r = then_inv _ _ m p e in
    many_length server_at n s r.next m p (pick_inv _ _ 9 m p r.rest).chosen

pub record Rows (mirrors servers : ℕ) (ms : List (List Server)) : Type 0 where
  pub count : length ms ≡ mirrors
  pub each : Each (HasServers servers) ms

pub mirrors_have : (mirrors servers : ℕ) (s : List ℕ) (at : ℕ) (ms : List (List Server)) (p : ℕ) → 1 ≤ mirrors → mirrors_at mirrors servers s at ≡ ok ms p → Rows mirrors servers ms
unfolding mirrors_at
mirrors_have mirrors servers s at ms p h e =
    let r = then_inv _ _ ms p e in
    let t = then_inv _ _ ms p r.rest in
    let first = many_length server_at servers s at r.item r.next r.first in
    let count = many_length (mirror_at servers) (mirrors - 1) s r.next t.item t.next t.first in
    let others = many_each (mirror_at servers) s (HasServers servers) (mirror_has servers s) (mirrors - 1) r.next t.item t.next t.first in
    let f : r.item ∷ t.item ≡ ms = same_value t.rest in
    let g : suc (length t.item) ≡ mirrors = omega arith in
    rw (← f) (record { count = g; each = (first, others) })

-- ---- the rows, one after the other

pub set_rows_lem : (n : ℕ) (ms : List (List Server)) (done : List ℕ) (k r : ℕ) → n ≤ 16 → Each (HasServers n) ms → length done ≡ k → 16 * length ms ≤ r
    → set_rows (done ++ replicate r 0) k ms ≡ done ++ padded r 0 (rows ms)
unfolding set_rows rows padded
set_rows_lem n [] done k r small each e room = let f : r - 0 ≡ r = omega arith in rw f
set_rows_lem n (m ∷ ms) done k r small each e room =
    let vs = map (λ v. v.device) m in
    let lv : length vs ≡ n = length-map m _ ∙ each.0 in
    let row = padded 16 0 vs in
    let lr : length row ≡ 16 = length_padded 16 0 vs (omega arith) in
    let ld : length (done ++ row) ≡ k + 16 = length-append done row ∙ omega arith in
    let here : sets (done ++ replicate r 0) k vs ≡ (done ++ row) ++ replicate (r - 16) 0 =
    rw (← e) (sets_behind done vs r 0 (omega arith))
    ∙ ap (λ (l : List ℕ). done ++ l) (padded_first 16 0 vs r (omega arith) (omega arith))
    ∙ sym (append_assoc done row (replicate (r - 16) 0)) in
    let le : length (row ++ rows ms) ≡ 16 + length (rows ms) = length-append row (rows ms) ∙ ap (λ (x : ℕ). x + length (rows ms)) lr in
    let z : r - length (row ++ rows ms) ≡ r - 16 - length (rows ms) = omega arith in
    rw (here, set_rows_lem n ms (done ++ row) (k + 16) (r - 16) small each.1 ld (omega arith), z)
    (append_assoc done row _ ∙ ap (λ (l : List ℕ). done ++ l) (sym (append_assoc row (rows ms) _)))

pub starts_filled : (n : ℕ) (ms : List (List Server)) → n ≤ 16 → Each (HasServers n) ms → length ms ≤ 8 → set_rows (replicate 128 0) 0 ms ≡ starts_of ms
unfolding starts_of
starts_filled n ms small each few = set_rows_lem n ms [] 0 128 small each refl (omega arith)

-- ---- what the loops say is what the definition says

pub mirrors_refused_too : (k : ℕ) (x : Parsed (List (List Server))) (t : List ℕ) (n : ℕ) → with_mirrors k x t ≡ fault n → x ≡ fault n
unfolding with_mirrors then
mirrors_refused_too k (ok ms p) t n e = let z : ◌≡◌ {A = ℕ} 0 1 = cc in absurd (omega arith)
mirrors_refused_too k (fault m) t n e = let f : m ≡ n = cc in rw f

pub record Filled (x : Parsed (List (List Server))) (k : ℕ) (t t' : List ℕ) (p : ℕ) : Type 0 where
  pub mirrors : List (List Server)
  pub read : x ≡ ok mirrors p
  pub table : set_rows t k mirrors ≡ t'

pub mirrors_read_too : (k : ℕ) (x : Parsed (List (List Server))) (t t' : List ℕ) (p : ℕ) → with_mirrors k x t ≡ ok t' p → Filled x k t t' p
unfolding with_mirrors then
mirrors_read_too k (ok ms q) t t' p e = record { mirrors = ms; read = let f : q ≡ p = cc in rw f; table = cc }
mirrors_read_too k (fault m) t t' p e = let z : ◌≡◌ {A = ℕ} 0 1 = cc in absurd (omega arith)
