-- Laws of the whole store: where each slot is, and that a slot laid out anew changes that slot alone.
use Prim.Native.Nat.{ℕ, zero, suc, ◌+◌, ◌*◌, ◌≤◌, ◌<◌}
use mathlib.Core.Path.{◌≡◌, refl, sym, ap, ◌∙◌}
use mathlib.Core.List.{List, [], ◌∷◌, ◌++◌, append_assoc}
use native.Mathlib.Omega.{arith}
use borrow.Author.Tests.{le-leb}
use lib.ListN.{length, take, drop, get_or, set, length-append}
use lib.Seq.{drop-append-add, drop-cons, drop-nil, set_split, sets-eq, take-append-add, take_at, take-nil}
use Rattle.base.specs.Answer.{pick}
use Rattle.octets.specs.Buffers.{stored}
use Rattle.octets.proofs.StoredLaws.{fits_stored}
use Rattle.store.specs.Store.{Slot, empty, slot_at, slot_bytes, slot_set, store_of}

-- each slot fills its 4,096 bytes
abbrev pub AllWhole : List Slot → Type 0
AllWhole slots = (i : ℕ) → length (slot_bytes (get_or slots i empty)) ≡ 4096

pub length_store : (slots : List Slot) → AllWhole slots → length (store_of slots) ≡ length slots * 4096
unfolding store_of
length_store [] h = refl
length_store (s ∷ l) h =
    let a : length (slot_bytes s) ≡ 4096 = h 0 in
    let b : length (store_of l) ≡ length l * 4096 = length_store l (λ i. h (suc i)) in
    rw (length-append (slot_bytes s) (store_of l)) (omega arith)

store_append : (k l : List Slot) → store_of (k ++ l) ≡ store_of k ++ store_of l
unfolding store_of
store_append [] l = refl
store_append (s ∷ k) l = rw (store_append k l) (sym (append_assoc (slot_bytes s) (store_of k) (store_of l)))

-- the first i slots, and the slots from i on
pub take_slots : (i : ℕ) (slots : List Slot) → AllWhole slots → take (i * 4096) (store_of slots) ≡ store_of (take i slots)
unfolding store_of
take_slots zero slots h = refl
take_slots (suc i) [] h = take-nil (suc i * 4096)
take_slots (suc i) (s ∷ l) h =
    let a : length (slot_bytes s) ≡ 4096 = h 0 in
    let e : suc i * 4096 ≡ length (slot_bytes s) + i * 4096 = omega arith in
    rw (e, take-append-add (slot_bytes s) (store_of l) (i * 4096), take_slots i l (λ j. h (suc j)))

pub drop_slots : (i : ℕ) (slots : List Slot) → AllWhole slots → drop (i * 4096) (store_of slots) ≡ store_of (drop i slots)
unfolding store_of
drop_slots zero slots h = refl
drop_slots (suc i) [] h = drop-nil (suc i * 4096)
drop_slots (suc i) (s ∷ l) h =
    let a : length (slot_bytes s) ≡ 4096 = h 0 in
    let e : suc i * 4096 ≡ length (slot_bytes s) + i * 4096 = omega arith in
    rw (e, drop-append-add (slot_bytes s) (store_of l) (i * 4096), drop_slots i l (λ j. h (suc j)))

pub slot_is_at : (slots : List Slot) (i : ℕ) → AllWhole slots → i < length slots → slot_at (store_of slots) i ≡ slot_bytes (get_or slots i empty)
unfolding store_of
slot_is_at slots i h k =
    rw (drop_slots i slots h, drop-cons slots i empty k)
    (take_at (slot_bytes (get_or slots i empty)) (store_of (drop (suc i) slots)) 4096 (h i))

pub set_slot : (slots : List Slot) (i : ℕ) (s : Slot) → AllWhole slots → length (slot_bytes s) ≡ 4096 → i < length slots
    → slot_set (store_of slots) i s ≡ store_of (set slots i s)
unfolding slot_set store_of pick
set_slot slots i s h w k =
    let l = store_of slots in
    let bs = slot_bytes s in
    let n : length l ≡ length slots * 4096 = length_store slots h in
    let fits : i * 4096 + length bs ≤ length l = omega arith in
    let e : i * 4096 + length bs ≡ suc i * 4096 = omega arith in
    let room : length bs ≤ 4096 = omega arith in
    let laid : stored l (i * 4096) bs ≡ take (i * 4096) l ++ bs ++ drop (suc i * 4096) l =
    fits_stored l (i * 4096) bs fits ∙ sets-eq bs l (i * 4096) fits ∙ ap (λ (m : ℕ). take (i * 4096) l ++ bs ++ drop m l) e in
    rw (le-leb _ _ room, laid, take_slots i slots h, drop_slots (suc i) slots h, set_split slots i s k, store_append (take i slots) (s ∷ drop (suc i) slots))
    (append_assoc (store_of (take i slots)) bs (store_of (drop (suc i) slots)))
