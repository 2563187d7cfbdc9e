-- What holds of the reference model after every list of events, and its step as a call.
use Rattle.std.specs.Prelude.{ℕ, ◌≤◌, ◌≡◌, true, List, length, get_or}
use Rattle.base.specs.Limits.{longest_body, most_segments, slot_count}
use Rattle.base.specs.Ranges.{last_byte}
use Rattle.octets.specs.Numbers.{AllBytes}
use Rattle.layout.specs.Layouts.{layout_body}
use Rattle.segments.specs.Segments.{Mode}
use Rattle.store.specs.Store.{Body, Slot, empty, holds, store_of}
use Rattle.model.specs.Model.{ByteRight, none, granted, recalled, Event, Model, ReferenceModel, answer_to}
use Rattle.model.specs.Model.{any_byte, in_slots, is_under, segments_in}
use Rattle.base.specs.Answer.{is_accepted}
use Rattle.model.specs.SlotsShown.{all_distinct}
use Rattle.model.specs.Claim.{CallResult}

-- a body that a grant may bring; `small` follows from `read`, and spares the laws of slots that step
pub record GoodBody (b : Body) : Type 0 where
  pub read : is_accepted (layout_body b) ≡ true
  pub small : length b ≤ longest_body
  pub bytes : AllBytes b

-- the body of a right is in a slot
abbrev pub InSlot : List Slot → ByteRight → Type 0
InSlot ss none = Unit {0}
InSlot ss (granted b) = in_slots b ss ≡ true
InSlot ss (recalled b) = in_slots b ss ≡ true

-- eight slots, all distinct, each with a good body that a right of some byte names; each right's body in a slot; at
-- most 32 segments an iomode
pub record Invariant (N : ℕ) (M : Model) : Type 0 where
  pub eight : length M.slots ≡ slot_count
  pub distinct : all_distinct M.slots ≡ true
  pub good : (i : ℕ) (b : Body) → get_or M.slots i empty ≡ holds b → GoodBody b
  pub in_slot : (m : Mode) (x : ℕ) → x ≤ N → InSlot M.slots (M.right m x)
  pub few : (m : Mode) → length (segments_in N M m) ≤ most_segments
  pub named : (i : ℕ) (b : Body) → get_or M.slots i empty ≡ holds b → any_byte N (λ m x. is_under b (M.right m x))
      ≡ true

-- ---- its step

-- a reference model's answer to an event, and what is kept of it afterwards, with its store. keep: what is kept of
-- what the model keeps, such as its table.
unfoldable pub left_by : {K L : Type 0} → ReferenceModel L → (L → K) → Event → L → CallResult K
left_by ref keep e l = record {
  answer = answer_to last_byte (ref.command e l) (ref.model l);
  kept = keep (ref.next e l);
  store = store_of (ref.model (ref.next e l)).slots;
}
