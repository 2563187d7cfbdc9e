-- Laws of the slots that segments name: a slot marked, segment after segment, and what is in each of the eight entries.
use Prim.Native.Nat.{ℕ, zero, suc, ◌+◌, ◌≤◌, ◌<◌}
use mathlib.Core.Path.{◌≡◌, refl, sym, ap, ◌∙◌}
use mathlib.Core.Bool.{Bool, true, false, ◌||◌, or_assoc, or_comm, or-false}
use mathlib.Core.List.{List, []}
use native.Mathlib.Omega.{arith}
use borrow.Author.Tests.{eqb-false, eqb-true, ne_eqb}
use lib.Dec.{eqb}
use lib.ListN.{length, drop, get_or, replicate, set}
use lib.Seq.{ext_get_or, get_or-set_other, get_or-set_same}
use Rattle.base.proofs.ListLaws.{default_behind}
use Rattle.segments.specs.declared.Segment.{Segment}
use Rattle.segments.specs.declared.Table.{Table}
use Rattle.segments.specs.Segments.{READ, RW, any_names, is_named, is_of_slot, list_in}
use Rattle.lookup.proofs.LookupLaws.{next_segment, no_segment}
use Rattle.lookup.specs.Lookup.{named_slots}

-- ---- one slot

pub marked : (l : List Bool) (k i : ℕ) → k < length l → get_or (set l k true) i false ≡ (eqb i k || get_or l i false)
marked l k i h = go (eqb i k) refl where
  go : (b : Bool) → eqb i k ≡ b → get_or (set l k true) i false ≡ (b || get_or l i false)
  go true e = ap (λ (j : ℕ). get_or (set l k true) j false) (eqb-true i k e) ∙ get_or-set_same l k true false h
  go false e = get_or-set_other l k i true false (eqb-false i k e)

pub not_marked : (l : List Bool) (k i : ℕ) → 8 ≤ k → i < 8 → get_or l i false ≡ (eqb i k || get_or l i false)
not_marked l k i h b = rw (ne_eqb i k (λ e. omega (arith, e)))

-- ---- segments one after the other

pub marked_next : (i : ℕ) (l : List Segment) (k : ℕ) (d : Segment) (b : Bool) → k < length l
    → (any_names i (drop k l) || b) ≡ (any_names i (drop (k + 1) l) || (is_of_slot i (get_or l k d).right || b))
unfolding any_names
marked_next i l k d b h =
    let here = is_of_slot i (get_or l k d).right in
    let behind = any_names i (drop (k + 1) l) in
    rw (next_segment l k d h) (ap (λ (x : Bool). x || b) (or_comm here behind) ∙ or_assoc behind here b)

pub marked_all : (i : ℕ) (l : List Segment) (k : ℕ) (b : Bool) → length l ≤ k → (any_names i (drop k l) || b) ≡ b
unfolding any_names
marked_all i l k b h = rw (no_segment l k h)

-- ---- the eight places

named_at : (t : Table) (i : ℕ) → i < 8 → get_or (named_slots t) i false ≡ is_named t i
unfolding named_slots
named_at t zero h = refl
named_at t (suc zero) h = refl
named_at t (suc (suc zero)) h = refl
named_at t (suc (suc (suc zero))) h = refl
named_at t (suc (suc (suc (suc zero)))) h = refl
named_at t (suc (suc (suc (suc (suc zero))))) h = refl
named_at t (suc (suc (suc (suc (suc (suc zero)))))) h = refl
named_at t (suc (suc (suc (suc (suc (suc (suc zero))))))) h = refl
named_at t (suc (suc (suc (suc (suc (suc (suc (suc i)))))))) h = absurd (omega (arith, h))

pub read_marked : (t : Table) (i : ℕ) → (any_names i (list_in t READ) || get_or (replicate 8 false) i false) ≡ any_names i (list_in t READ)
read_marked t i = rw (default_behind [] 8 i false) (or-false (any_names i (list_in t READ)))

pub rw_marked : (t : Table) (i : ℕ) → (any_names i (list_in t RW) || any_names i (list_in t READ)) ≡ is_named t i
unfolding is_named
rw_marked t i = or_comm (any_names i (list_in t RW)) (any_names i (list_in t READ))

pub all_named : (t : Table) (l : List Bool) → length l ≡ 8 → ((i : ℕ) → i < 8 → get_or l i false ≡ is_named t i) → l ≡ named_slots t
unfolding named_slots
all_named t l n h = ext_get_or false l (named_slots t) n (λ i b. let k : i < 8 = omega (arith, b, n) in h i k ∙ sym (named_at t i k))

-- what is in an entry of the eight is what the table says
pub named_here : (t : Table) (named : List Bool) (i : ℕ) → named ≡ named_slots t → i < 8 → is_named t i ≡ get_or named i false
named_here t named i e h = sym (ap (λ (l : List Bool). get_or l i false) e ∙ named_at t i h)
