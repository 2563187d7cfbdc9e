-- Laws of a slot laid out anew: when the store stays as it was, and that the parts of a slot laid one after the other are the slot.
use Prim.Native.Nat.{ℕ, ◌+◌, ◌-◌, ◌*◌, ◌≤◌, ◌<◌}
use mathlib.Core.Path.{◌≡◌, refl, sym, ◌∙◌}
use mathlib.Core.List.{List, ◌++◌}
use native.Mathlib.Omega.{arith}
use borrow.Author.Tests.{le-leb, lt-leb}
use lib.ListN.{length, replicate, length-append, length-replicate}
use Rattle.base.specs.Answer.{pick}
use Rattle.octets.specs.Buffers.{stored}
use Rattle.octets.specs.Numbers.{le_bytes}
use Rattle.octets.proofs.NumberLaws.{length_le}
use Rattle.octets.proofs.StoredLaws.{length_stored, stored_then, unfit_stored}
use Rattle.store.specs.Store.{Body, Slot, empty, holds, slot_bytes, slot_set}
use Rattle.store.proofs.SlotLaws.{length_empty, length_long, length_slot}

pub fits_slot : (l : List ℕ) (i : ℕ) (s : Slot) → length (slot_bytes s) ≤ 4096 → slot_set l i s ≡ stored l (i * 4096) (slot_bytes s)
unfolding slot_set pick
fits_slot l i s h = rw (le-leb _ _ h)

pub too_long : (l : List ℕ) (i : ℕ) (b : Body) → 4090 < length b → slot_set l i (holds b) ≡ l
unfolding slot_set pick
too_long l i b h = rw (lt-leb _ _ (length_long b h))

pub no_slot : (l : List ℕ) (i : ℕ) (s : Slot) → length (slot_bytes s) ≡ 4096 → length l < i * 4096 + 4096 → slot_set l i s ≡ l
no_slot l i s h k = fits_slot l i s (omega arith) ∙ unfit_stored l (i * 4096) (slot_bytes s) (omega arith)

pub cleared : (l : List ℕ) (i : ℕ) → slot_set l i empty ≡ stored l (i * 4096) (replicate 4096 0)
unfolding slot_bytes
cleared l i = fits_slot l i empty (omega (arith, length_empty))

pub laid : (l : List ℕ) (i : ℕ) (b : Body) → length b ≤ 4090 → i * 4096 + 4096 ≤ length l
    → stored (stored (stored (stored l (i * 4096) (le_bytes 4 (length b))) (i * 4096 + 4) (le_bytes 2 4)) (i * 4096 + 6) b) (i * 4096 + 6 + length b) (replicate (4090 - length b) 0)
    ≡ slot_set l i (holds b)
unfolding slot_bytes
laid l i b h k =
    let at = i * 4096 in
    let n = le_bytes 4 (length b) in
    let kind = le_bytes 2 4 in
    let z : List ℕ = replicate (4090 - length b) 0 in
    let l1 = stored l at n in
    let l2 = stored l1 (at + 4) kind in
    let en : length n ≡ 4 = length_le 4 (length b) in
    let ek : length kind ≡ 2 = length_le 2 4 in
    let ez : length z ≡ 4090 - length b = length-replicate (4090 - length b) 0 in
    let e1 : length l1 ≡ length l = length_stored l at n in
    let e2 : length l2 ≡ length l = length_stored l1 (at + 4) kind ∙ e1 in
    let bz : length (b ++ z) ≡ length b + length z = length-append b z in
    let kbz : length (kind ++ (b ++ z)) ≡ length kind + length (b ++ z) = length-append kind (b ++ z) in
    stored_then l2 (at + 6) (at + 6 + length b) b z refl (omega arith)
    ∙ stored_then l1 (at + 4) (at + 6) kind (b ++ z) (omega arith) (omega arith)
    ∙ stored_then l at (at + 4) n (kind ++ (b ++ z)) (omega arith) (omega arith)
    ∙ sym (fits_slot l i (holds b) (omega (arith, length_slot b h)))
