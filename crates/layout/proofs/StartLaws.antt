-- Laws of the table of starts as the loops fill it.
use Prim.Native.Nat.{ℕ, zero, suc, ◌+◌, ◌-◌, ◌≤◌, ◌<◌}
use mathlib.Core.Path.{◌≡◌, refl, sym, ap, ◌∙◌}
use mathlib.Core.List.{List, [], ◌∷◌, ◌++◌, append-nil, append_assoc, map}
use native.Mathlib.Numerals.{add-one}
use native.Mathlib.Omega.{arith}
use lib.ListN.{length, take, drop, set, length-drop, length-map, drop_of_length-le}
use lib.Seq.{drop-drop, length-take-le, sets, sets-eq}
use Rattle.xdr.specs.Parsed.{Parsed, ok, fault, then, many_at}
use Rattle.xdr.proofs.ManyLaws.{first_then, none_then, refused_then}
use Rattle.server.specs.Servers.{server_at}
use Rattle.server.specs.declared.item.Server.{Server}
use Rattle.layout.specs.Layouts.{mirror_at}
use Rattle.layout.specs.Starts.{set_rows, with_mirrors, with_servers}

-- ---- servers of one mirror

module _ (n k : ℕ) (s : List ℕ) (at : ℕ) (t : List ℕ) where
  pub servers_none : n ≡ 0 → with_servers k (many_at server_at n s at) t ≡ ok t at
  unfolding with_servers
  servers_none h = none_then server_at n s at _ h

  pub servers_refused : (e : ℕ) → 0 < n → server_at s at ≡ fault e → with_servers k (many_at server_at n s at) t ≡ fault e
  unfolding with_servers
  servers_refused e h q = refused_then server_at n s at _ e h q

  pub servers_next : (v : Server) (p : ℕ) → 0 < n → server_at s at ≡ ok v p → v.device ≡ at
      → with_servers k (many_at server_at n s at) t ≡ with_servers (k + 1) (many_at server_at (n - 1) s p) (set t k at)
  unfolding with_servers
  servers_next v p h q d =
      rw add-one (first_then server_at n s at _ v p h q ∙ ap (λ (x : ℕ). with_servers (suc k) (many_at server_at (n - 1) s p) (set t k x)) d)

-- ---- a part of the table, lent for one row

part_stored : (k n : ℕ) (t ds : List ℕ) → length ds ≡ n → k + n ≤ length t
    → sets t k ds ≡ take k t ++ (sets (take n (drop k t)) 0 ds ++ drop n (drop k t))
part_stored k n t ds e h =
    let part = take n (drop k t) in
    let long : length part ≡ n = length-take-le n (drop k t) (omega (arith, length-drop k t)) in
    let none : drop (0 + length ds) part ≡ [] = drop_of_length-le part (omega arith) in
    let here : sets part 0 ds ≡ ds = sets-eq ds part 0 (omega arith) ∙ ap (λ (l : List ℕ). ds ++ l) none ∙ append-nil ds in
    let rest : drop n (drop k t) ≡ drop (k + length ds) t = drop-drop n k t ∙ ap (λ (x : ℕ). drop x t) (omega arith) in
    rw (here, rest) (sets-eq ds t k (omega arith) ∙ append_assoc (take k t) ds (drop (k + length ds) t))

-- as many servers as the part has entries, read into it: m is its length as the loan counts it
module _ (k n m : ℕ) (x : ℕ → Parsed (List Server)) (t : List ℕ) (same : m ≡ n) (within : k + n ≤ length t) where
  part_long : length (take m (drop k t)) ≡ n
  part_long = rw same (length-take-le n (drop k t) (omega (arith, length-drop k t)))

  pub part_refused : (e : ℕ) → with_servers 0 (x (length (take m (drop k t)))) (take m (drop k t)) ≡ fault e → with_servers k (x n) t ≡ fault e
  unfolding with_servers then
  part_refused e h = go (x n) (rw part_long at h) where
    go : (y : Parsed (List Server)) → with_servers 0 y (take m (drop k t)) ≡ fault e → with_servers k y t ≡ fault e
    go (ok vs q) f = let z : ◌≡◌ {A = ℕ} 0 1 = cc in absurd (omega arith)
    go (fault i) f = f

  pub part_read : (row : List ℕ) (p : ℕ) → ((vs : List Server) (q : ℕ) → x n ≡ ok vs q → length vs ≡ n)
      → with_servers 0 (x (length (take m (drop k t)))) (take m (drop k t)) ≡ ok row p
      → with_servers k (x n) t ≡ ok (take k t ++ (row ++ drop m (drop k t))) p
  unfolding with_servers then
  part_read row p long h = go (x n) long (rw part_long at h) where
    go : (y : Parsed (List Server)) → ((vs : List Server) (q : ℕ) → y ≡ ok vs q → length vs ≡ n)
        → with_servers 0 y (take m (drop k t)) ≡ ok row p → with_servers k y t ≡ ok (take k t ++ (row ++ drop m (drop k t))) p
    go (ok vs q) long f =
        let ds = map (λ v. v.device) vs in
        let all : length ds ≡ m = length-map vs _ ∙ long vs q refl ∙ sym same in
        let e : q ≡ p = cc in
        let g : sets (take m (drop k t)) 0 ds ≡ row = cc in
        rw (← e, ← g) (ap (λ (l : List ℕ). ok l q) (part_stored k m t ds all (omega arith)))
    go (fault i) long f = let z : ◌≡◌ {A = ℕ} 0 1 = cc in absurd (omega arith)

-- ---- mirrors

-- the servers of a mirror, then what follows from the offset after them
pub row_read : (k : ℕ) (x : Parsed (List Server)) (y : ℕ → Parsed (List (List Server))) (t t' : List ℕ) (p : ℕ) → with_servers k x t ≡ ok t' p
    → with_mirrors k (then x λ row p1. then (y p1) λ others p2. ok (row ∷ others) p2) t ≡ with_mirrors (k + 16) (y p) t'
unfolding with_servers with_mirrors set_rows then
row_read k (ok row q) y t t' p h =
    let e : q ≡ p = cc in
    let f : sets t k (map (λ v. v.device) row) ≡ t' = cc in
    rw (← e, ← f) (go (y q))
  where
    go : (z : Parsed (List (List Server)))
        → with_mirrors k (then z λ others p2. ok (row ∷ others) p2) t ≡ with_mirrors (k + 16) z (sets t k (map (λ v. v.device) row))
    go (ok others p2) = refl
    go (fault n) = refl
row_read k (fault n) y t t' p h = let z : ◌≡◌ {A = ℕ} 0 1 = cc in absurd (omega arith)

pub row_refused : (k : ℕ) (x : Parsed (List Server)) (f : List Server → ℕ → Parsed (List (List Server))) (t : List ℕ) (n : ℕ) → with_servers k x t ≡ fault n
    → with_mirrors k (then x f) t ≡ fault n
unfolding with_servers with_mirrors then
row_refused k (ok row q) f t n h = let z : ◌≡◌ {A = ℕ} 0 1 = cc in absurd (omega arith)
row_refused k (fault m) f t n h = let e : m ≡ n = cc in rw e

module _ (servers : ℕ) (s : List ℕ) where
  pub mirrors_none : (n k at : ℕ) (t : List ℕ) → n ≡ 0 → with_mirrors k (many_at (mirror_at servers) n s at) t ≡ ok t at
  unfolding with_mirrors set_rows
  mirrors_none n k at t h = none_then (mirror_at servers) n s at _ h

  pub mirrors_refused : (n k at : ℕ) (t : List ℕ) (e : ℕ) → 0 < n → with_servers k (mirror_at servers s at) t ≡ fault e
      → with_mirrors k (many_at (mirror_at servers) n s at) t ≡ fault e
  unfolding many_at
  mirrors_refused zero k at t e h q = absurd (omega arith)
  mirrors_refused (suc n) k at t e h q = row_refused k (mirror_at servers s at) _ t e q

  pub mirrors_next : (n k at : ℕ) (t t' : List ℕ) (p : ℕ) → 0 < n → with_servers k (mirror_at servers s at) t ≡ ok t' p
      → with_mirrors k (many_at (mirror_at servers) n s at) t ≡ with_mirrors (k + 16) (many_at (mirror_at servers) (n - 1) s p) t'
  unfolding many_at
  mirrors_next zero k at t t' p h q = absurd (omega arith)
  mirrors_next (suc n) k at t t' p h q =
      let f : suc n - 1 ≡ n = omega arith in
      rw f (row_read k (mirror_at servers s at) (λ p1. many_at (mirror_at servers) n s p1) t t' p q)
