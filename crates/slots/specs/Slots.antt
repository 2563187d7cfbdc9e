-- Where a granted body goes, and the slots that no segment names any more.
use Rattle.std.specs.Prelude.{ℕ, zero, suc, Bool, false, not, ◌&&◌, List, [], ◌∷◌, get_or}
use Rattle.base.specs.Answer.{pick}
use Rattle.store.specs.Store.{Body, Slot, empty, holds, slot_set}
use Rattle.model.specs.Model.{in_slots, none_empty, slot_of}
use Rattle.slots.specs.declared.choice.SlotChoice.{SlotChoice}
use Rattle.slots.specs.declared.choice.SlotChoice.TheVariants.{Holding, Free, NoneLeft}

-- which slots are named, by a list of truth values
abbrev pub is_set : List Bool → ℕ → Bool
is_set named i = get_or named i false

-- the number of "the lowest unnamed one"
unfoldable pub lowest_empty : List Slot → ℕ
lowest_empty [] = 0
lowest_empty (empty ∷ ss) = 0
lowest_empty (holds b ∷ ss) = suc (lowest_empty ss)

unfoldable pub free_choice : List Slot → SlotChoice
free_choice ss = pick (none_empty ss) NoneLeft (Free (record { 0 = lowest_empty ss }))

-- "A grant whose body is on the shelf uses that slot; otherwise the lowest unnamed one."
unfoldable pub slot_choice : Body → List Slot → SlotChoice
slot_choice b ss = pick (in_slots b ss) (Holding (record { 0 = slot_of b ss })) (free_choice ss)

-- "A slot that no segment names is all zeros": of the k slots from slot i on, those that were named before an event
-- and are not after it
unfoldable pub cleared_from : (ℕ → Bool) → (ℕ → Bool) → ℕ → ℕ → List ℕ → List ℕ
cleared_from was is zero i store = store
cleared_from was is (suc k) i store =
    cleared_from was is k (suc i) (pick (was i && not (is i)) (slot_set store i empty) store)
