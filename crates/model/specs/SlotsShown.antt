-- The slots that a table and a store show.
use Rattle.std.specs.Prelude.{ℕ, zero, suc, Bool, true, not, ◌&&◌, List, [], ◌∷◌}
use Rattle.base.specs.Limits.{slot_count}
use Rattle.base.specs.Answer.{pick}
use Rattle.segments.specs.declared.Table.{Table}
use Rattle.segments.specs.Segments.{is_named}
use Rattle.store.specs.Store.{Slot, empty, holds, body_in, slot_at}
use Rattle.model.specs.Model.{in_slots}

-- the k slots from slot i on, by a test which are named: a named slot has the body that its bytes say
unfoldable pub slots_from : (ℕ → Bool) → List ℕ → ℕ → ℕ → List Slot
slots_from named store zero i = []
slots_from named store (suc k) i =
    pick (named i) (holds (body_in (slot_at store i))) empty ∷ slots_from named store k (suc i)

-- the slots as table and store have them
unfoldable pub slots_in : Table → List ℕ → List Slot
slots_in t store = slots_from (is_named t) store slot_count 0

-- "no two alike"
unfoldable pub all_distinct : List Slot → Bool
all_distinct [] = true
all_distinct (empty ∷ ss) = all_distinct ss
all_distinct (holds b ∷ ss) = not (in_slots b ss) && all_distinct ss
