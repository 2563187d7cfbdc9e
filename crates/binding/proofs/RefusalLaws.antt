-- A binding refuses as listed: what is read again of accepted bodies is there, so only the bodies' own numbers, 16, 8, 13, 14 and 15 come.
use Prim.Native.Nat.{ℕ, zero, suc, ◌+◌, ◌<◌}
use mathlib.Core.Path.{◌≡◌, refl, sym, ap, ◌∙◌}
use mathlib.Core.Logic.{◌⊎◌, inl, inr, ⊎_elim}
use mathlib.Core.Bool.{Bool, true, false}
use mathlib.Core.List.{List, [], ◌∷◌}
use native.Mathlib.Omega.{arith}
use borrow.Author.Tests.{eqb-true, ltb-true}
use lib.Dec.{eqb, leb, ltb}
use lib.ListN.{get_or, take}
use Rattle.base.specs.Answer.{Answer, accepted, refused, given, pick}
use Rattle.base.proofs.AnswerLaws.{both, never_refused, same_refusal}
use Rattle.xdr.specs.Parsed.{Parsed, ok, fault, then, many_at}
use Rattle.xdr.specs.Items.{opaque_at}
use Rattle.xdr.proofs.Accepted.{then_inv, same_value}
use Rattle.octets.specs.Numbers.{bytes_from, same_bytes}
use Rattle.server.specs.Servers.{handles_at, server_at}
use Rattle.server.specs.declared.item.Server.{Server}
use Rattle.layout.specs.Layouts.{Layout, layout_body, start_at}
use Rattle.layout.proofs.LayoutLaws.{start_is_at}
use Rattle.device.specs.Bodies.{Device, device_body}
use Rattle.device.specs.Versions.{blank_version}
use Rattle.device.specs.declared.version.Version.{Version}
use Rattle.binding.specs.Bindings.{bound, bound_to, chosen_from, entry_bound, handle_at, matches, require, server_bound, stateid_fits, supports, value_of}
use Rattle.binding.proofs.BindingLaws.{chosen_below}

-- ---- the filehandle at a place below the count is there

pub record There {A : Type 0} (x : Parsed A) : Type 0 where
  pub item : A
  pub next : ℕ
  pub read : x ≡ ok item next

none_passed : {A B : Type 0} (f : ℕ → Parsed B) (at : ℕ) (x : Parsed (List A)) → x ≡ ok [] at → then x (λ passed p. f p) ≡ f at
unfolding then
none_passed f at x e = rw e

one_passed : {A B : Type 0} (x : Parsed A) (y : ℕ → Parsed (List A)) (f : ℕ → Parsed B) (a : A) (p : ℕ) → x ≡ ok a p
    → then (then x λ v q. then (y q) λ rest q'. ok (v ∷ rest) q') (λ passed q. f q) ≡ then (y p) (λ passed q. f q)
unfolding then
one_passed x y f a p e = rw e (go (y p)) where
  go : (z : Parsed (List _)) → then (then z λ rest q'. ok (a ∷ rest) q') (λ passed q. f q) ≡ then z (λ passed q. f q)
  go (ok rest q) = refl
  go (fault n) = refl

behind : {A : Type 0} (item : List ℕ → ℕ → Parsed A) (n i : ℕ) (s : List ℕ) (at : ℕ) (l : List A) (p : ℕ) → i < n → many_at item n s at ≡ ok l p
    → There (then (many_at item i s at) λ passed q. item s q)
unfolding many_at
behind item zero i s at l p h e = absurd (omega arith)
behind item (suc n) zero s at l p h e =
    let r = then_inv _ _ l p e in
    record { item = r.item; next = r.next; read = none_passed (λ q. item s q) at (many_at item 0 s at) refl ∙ r.first }
behind item (suc n) (suc i) s at l p h e =
    let r = then_inv _ _ l p e in
    let t = then_inv _ _ l p r.rest in
    let b = behind item n i s r.next t.item t.next (omega arith) t.first in
    record {
      item = b.item;
      next = b.next;
      read = one_passed (item s at) (λ q. many_at item i s q) (λ q. item s q) r.item r.next r.first ∙ b.read;
    }

pub handle_there : (s : List ℕ) (at : ℕ) (v : Server) (p i : ℕ) → server_at s at ≡ ok v p → i < v.handles → There (handle_at i s v.first_handle)
unfolding server_at handles_at handle_at
handle_there s at v p i e h =
    let d = then_inv _ _ v p e in
    let n = then_inv _ _ v p d.rest in
    let u = then_inv _ _ v p n.rest in
    let g = then_inv _ _ v p u.rest in
    let w = same_value g.rest in
    let eh : d.item.handles ≡ v.handles = ap (λ (x : Server). x.handles) w in
    let ef : d.next ≡ v.first_handle = ap (λ (x : Server). x.first_handle) w in
    rw (← ef) (behind (opaque_at 1 128) d.item.handles i s d.next n.item n.next (omega arith) n.first)

-- ---- which refusals come

abbrev pub BindingRefusal : ℕ → Type 0
BindingRefusal n = (n ≡ 16) ⊎ ((n ≡ 8) ⊎ ((n ≡ 13) ⊎ ((n ≡ 14) ⊎ (n ≡ 15))))

require_refused : {A : Type 0} (t : Bool) (k : ℕ) (x : Answer A) (n : ℕ) → require t k x ≡ refused n → (n ≡ k) ⊎ ((t ≡ true) × (x ≡ refused n))
unfolding require pick
require_refused true k x n e = inr (refl, e)
require_refused false k x n e = inl (sym (same_refusal k n e))

chosen_refused : (set i : ℕ) (vs : List Version) (n : ℕ) → chosen_from set i vs ≡ refused n → n ≡ 14
unfolding chosen_from pick
chosen_refused set i [] n e = sym (same_refusal 14 n e)
chosen_refused set i (v ∷ vs) n e = go (supports set v) e (chosen_refused set (i + 1) vs n) where
  go : (t : Bool) → pick t (accepted i) (chosen_from set (i + 1) vs) ≡ refused n → (chosen_from set (i + 1) vs ≡ refused n → n ≡ 14) → n ≡ 14
  go true k rest = never_refused i n k
  go false k rest = rest k

entry_refused : (s : List ℕ) (v : Server) (ver : Version) (i n : ℕ) → There (handle_at i s v.first_handle) → entry_bound s v ver i ≡ refused n → n ≡ 15
unfolding entry_bound given value_of
entry_refused s v ver i n h e =
    ⊎_elim (λ k. k) (λ k. never_refused _ n (rw h.read at k.1))
    (require_refused (stateid_fits s ver v.stateid) 15 (given (value_of (handle_at i s v.first_handle)) λ handle. accepted (bound v ver i handle)) n e)

chosen_entry : (s : List ℕ) (start p : ℕ) (v : Server) (versions : List Version) (count set n : ℕ) → server_at s start ≡ ok v p → v.handles ≡ count
    → (given (chosen_from set 0 (take count versions)) λ i. entry_bound s v (get_or versions i blank_version) i) ≡ refused n → (n ≡ 14) ⊎ (n ≡ 15)
unfolding given
chosen_entry s start p v versions count set n r hc e = go (chosen_from set 0 (take count versions)) refl e where
  go : (x : Answer ℕ) → chosen_from set 0 (take count versions) ≡ x → given x (λ i. entry_bound s v (get_or versions i blank_version) i) ≡ refused n
      → (n ≡ 14) ⊎ (n ≡ 15)
  go (accepted i) h k =
      let small = chosen_below set count versions i h in
      inr (entry_refused s v (get_or versions i blank_version) i n (handle_there s start v p i r (omega (arith, hc, small))) k)
  go (refused m) h k = inl (sym (same_refusal m n k) ∙ chosen_refused set 0 (take count versions) m h)

server_refused : (s : List ℕ) (start p : ℕ) (v : Server) (versions : List Version) (count : ℕ) (id : List ℕ) (set n : ℕ) → server_at s start ≡ ok v p
    → server_bound s start versions count id set ≡ refused n → (n ≡ 13) ⊎ ((n ≡ 14) ⊎ (n ≡ 15))
unfolding server_bound given value_of matches
server_refused s start p v versions count id set n r e =
    ⊎_elim (λ k. inl k)
    (λ k. inr (chosen_entry s start p v versions count set n r (eqb-true v.handles count (both (same_bytes (bytes_from 16 s v.device) id) (eqb v.handles count) k.0).1) k.1))
    (require_refused (matches s v count id) 13 _ n (rw r at e))

-- a binding refuses with the number of a body, or with 16, 8, 13, 14 or 15
pub refused_as_listed : (layout : List ℕ) (mirror stripe : ℕ) (device id : List ℕ) (set n : ℕ) → bound_to layout mirror stripe device id set ≡ refused n
    → (layout_body layout ≡ refused n) ⊎ ((device_body device ≡ refused n) ⊎ BindingRefusal n)
unfolding bound_to given
refused_as_listed layout mirror stripe device id set n e = bodies (layout_body layout) refl (device_body device) refl e where
  servers : (l : Layout) (d : Device) → layout_body layout ≡ accepted l → (ltb mirror l.summary.mirrors) ≡ true → (ltb stripe l.summary.servers) ≡ true
      → server_bound layout (start_at l.starts mirror stripe) d.versions d.count_of_versions id set ≡ refused n → BindingRefusal n
  servers l d h hm hs k =
      let i = start_is_at layout l h mirror stripe (ltb-true _ _ hm) (ltb-true _ _ hs) in
      inr (inr (server_refused layout _ i.next i.server d.versions d.count_of_versions id set n i.read k))

  listed : (l : Layout) (d : Device) → layout_body layout ≡ accepted l
      → require (ltb mirror l.summary.mirrors) 16
      (require (ltb stripe l.summary.servers) 16
      (require (leb set 15) 8
      (server_bound layout (start_at l.starts mirror stripe) d.versions d.count_of_versions id set))) ≡ refused n
      → BindingRefusal n
  listed l d h k =
      ⊎_elim (λ a. inl a)
      (λ a. ⊎_elim (λ b. inl b)
      (λ b. ⊎_elim (λ c. inr (inl c)) (λ c. servers l d h a.0 b.0 c.1) (require_refused _ 8 _ n b.1))
      (require_refused _ 16 _ n a.1))
      (require_refused _ 16 _ n k)

  bodies : (x : Answer Layout) → layout_body layout ≡ x → (y : Answer Device) → device_body device ≡ y
      → (given x λ l. given y λ d.
      require (ltb mirror l.summary.mirrors) 16
      (require (ltb stripe l.summary.servers) 16
      (require (leb set 15) 8
      (server_bound layout (start_at l.starts mirror stripe) d.versions d.count_of_versions id set)))) ≡ refused n
      → (layout_body layout ≡ refused n) ⊎ ((device_body device ≡ refused n) ⊎ BindingRefusal n)
  bodies (accepted l) h (accepted d) k e' = inr (inr (listed l d h e'))
  bodies (accepted l) h (refused m) k e' = inr (inl (k ∙ ap refused (same_refusal m n e')))
  bodies (refused m) h y k e' = inl (h ∙ ap refused (same_refusal m n e'))
