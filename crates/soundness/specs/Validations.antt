-- What the validation of a table and a store gives, besides whether they are sound: the slots that are named, and
-- the layout body in one; and what the functions inside this crate promise of a validation.
use Rattle.std.specs.Prelude.{ℕ, ◌≡◌, Bool, true, false, ◌&&◌, List, ltb, replicate}
use Rattle.base.specs.Answer.{Answer, refused, pick}
use Rattle.base.specs.Limits.{most_starts, slot_count}
use Rattle.layout.specs.Answers.{answer_of_layout, starts_in}
use Rattle.layout.specs.Layouts.{Layout, layout_body}
use Rattle.segments.specs.declared.Table.{Table}
use Rattle.segments.specs.Segments.{is_named}
use Rattle.lookup.specs.Lookup.{named_slots}
use Rattle.store.specs.Store.{body_in, slot_at}
use Rattle.soundness.specs.Sound.{slots_sound, sound}
use Rattle.soundness.specs.declared.bodies.Validation.{Validation}

-- of each slot whether a segment names it; of an unsound table none
unfoldable pub named_if_sound : Table → List ℕ → List Bool
named_if_sound t store = pick (sound t store) (named_slots t) (replicate slot_count false)

-- what is not read is refused with 1, as no bytes at all are
abbrev pub not_read : Answer Layout
not_read = refused 1

-- the layout body in a slot, where it is one of the first n and a segment names it
unfoldable pub layout_named : Table → List ℕ → ℕ → ℕ → Answer Layout
layout_named t store slot n = pick (ltb slot n && is_named t slot) (layout_body (body_in (slot_at store slot))) not_read

-- the layout body in a slot that a segment names, where table and store are sound
unfoldable pub layout_if_sound : Table → List ℕ → ℕ → Answer Layout
layout_if_sound t store slot = pick (sound t store) (layout_named t store slot slot_count) not_read

-- ---- inside this crate

-- the validation of what is unsound: nothing was read, and no slot is named
pub record UnsoundValidation (v : Validation) : Type 0 where
  pub sound : v.sound ≡ false
  pub answer : answer_of_layout v.read.answer v.read.starts ≡ not_read
  pub starts : v.read.starts ≡ replicate most_starts 0
  pub named : v.named ≡ replicate slot_count false

-- what a validation holds where the slots are sound: what was read in this slot, and which slots are named
pub record SlotsReading (t : Table) (store : List ℕ) (slot : ℕ) (v : Validation) : Type 0 where
  pub answer : answer_of_layout v.read.answer v.read.starts ≡ layout_named t store slot slot_count
  pub starts : v.read.starts ≡ starts_in (layout_named t store slot slot_count)
  pub named : v.named ≡ named_slots t

-- the validation of the slots alone: whether they are sound, and what was read where they are
pub record SlotsValidation (t : Table) (store : List ℕ) (slot : ℕ) (v : Validation) : Type 0 where
  pub sound : v.sound ≡ slots_sound t store slot_count 0
  pub reading : v.sound ≡ true → SlotsReading t store slot v
