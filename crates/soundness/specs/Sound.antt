-- Soundness of a table and a body store, whatever they are. 20 is "table or shelf is unsound".
use Rattle.std.specs.Prelude.{ℕ, zero, suc, ◌+◌, Bool, true, false, not, ◌&&◌, List, [], ◌∷◌, length, drop, leb, ltb, eqb}
use Rattle.base.specs.Limits.{longest_body, most_segments, slot_count, slot_head_size, store_size}
use Rattle.base.specs.Answer.{is_accepted}
use Rattle.octets.specs.Numbers.{all_zero}
use Rattle.layout.specs.Layouts.{layout_body}
use Rattle.segments.specs.declared.Right.{Right}
use Rattle.segments.specs.declared.Right.TheVariants.{None, Granted, Recalled}
use Rattle.segments.specs.declared.Segment.{Segment}
use Rattle.segments.specs.declared.Segments.{Segments}
use Rattle.segments.specs.declared.Table.{Table}
use Rattle.segments.specs.Segments.{is_named, list_of, same_right}
use Rattle.store.specs.Store.{body_in, kind_in, length_in, slot_at}
use Rattle.model.specs.SlotsShown.{all_distinct, slots_in}

-- ---- segments

-- a right that a segment may have: not none, and under one of the eight slots
abbrev pub has_slot : Right → Bool
has_slot None = false
has_slot (Granted s) = ltb s.0 slot_count
has_slot (Recalled s) = ltb s.0 slot_count

-- "Segments stand in rising order .. Neighbours that touch with the same right and body are one segment."
unfoldable pub apart : Segment → Segment → Bool
apart a b = ltb a.last b.first && not (eqb (suc a.last) b.first && same_right a.right b.right)

unfoldable pub apart_from_next : Segment → List Segment → Bool
apart_from_next s [] = true
apart_from_next s (b ∷ l) = apart s b

-- one segment by itself: it has a byte, and a right that a segment may have
unfoldable pub is_fit : Segment → Bool
is_fit s = leb s.first s.last && has_slot s.right

-- each segment by itself, and against the one after it
unfoldable pub is_in_order : List Segment → Bool
is_in_order [] = true
is_in_order (s ∷ l) = is_fit s && apart_from_next s l && is_in_order l

-- "blank places blank": 0, 0 and no right
abbrev pub is_blank : Segment → Bool
is_blank s = eqb s.first 0 && eqb s.last 0 && same_right None s.right

unfoldable pub all_blank : List Segment → Bool
all_blank [] = true
all_blank (s ∷ l) = is_blank s && all_blank l

-- "segments as above, at most 32 an iomode, blank places blank"
unfoldable pub segments_sound : Segments → Bool
segments_sound g = leb g.count most_segments && is_in_order (list_of g) && all_blank (drop g.count g.items)

-- ---- slots

-- "named slots are laid out as said and hold accepted bodies .. unnamed slots zero"
unfoldable pub slot_sound : Bool → List ℕ → Bool
slot_sound true slot =
    leb (length_in slot) longest_body
    && eqb (kind_in slot) 4
    && is_accepted (layout_body (body_in slot))
    && all_zero (drop (slot_head_size + length_in slot) slot)
slot_sound false slot = all_zero slot

-- k slots from slot i on
unfoldable pub slots_sound : Table → List ℕ → ℕ → ℕ → Bool
slots_sound t store zero i = true
slots_sound t store (suc k) i = slot_sound (is_named t i) (slot_at store i) && slots_sound t store k (suc i)

-- "Sound means: segments as above, at most 32 an iomode, blank places blank; named slots are laid out as said and
-- hold accepted bodies, no two alike; unnamed slots zero; shelf of the right length."
unfoldable pub sound : Table → List ℕ → Bool
sound t store =
    segments_sound t.read
    && segments_sound t.rw
    && slots_sound t store slot_count 0
    && all_distinct (slots_in t store)
    && eqb (length store) store_size
