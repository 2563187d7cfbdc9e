use Prim.Native.Nat.{◌-◌}
use Rattle.layout.specs.Answers.{answer_of_layout, starts_in}
use Rattle.lookup.specs.Lookup.{named_slots}
use Rattle.soundness.specs.Sound.{slots_sound}
use Rattle.segments.specs.declared.Table.{Table}
use Rattle.soundness.specs.Validations.{layout_named}
use mathlib.Core.Path.{◌≡◌}
use Rattle.soundness.proofs.bodies.validate_slots.Given as goal

abbrev pub invariant-loop-i : goal.invariant-loop-i
invariant-loop-i l =
    (t : Table) → l.named ≡ named_slots t
    → (slots_sound t l.store 8 0 ≡ slots_sound t l.store (8 - l.i) l.i)
    × (answer_of_layout l.read.answer l.read.starts ≡ layout_named t l.store l.asked.0 l.i)
    × (l.read.starts ≡ starts_in (layout_named t l.store l.asked.0 l.i))
