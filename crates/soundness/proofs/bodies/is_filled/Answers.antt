-- `soundness::bodies::is_filled` meets its contract, test by test.
use Rattle.soundness.specs.Sound.{slot_sound}
use borrow.Author.Tests.{eq-eqb, le-leb, lt-leb, ne_eqb}
use mathlib.Core.Path.{sym, ◌∙◌}
use Rattle.soundness.proofs.ValidSlotLaws.{ok_accepted}
use Rattle.soundness.proofs.bodies.is_filled.Goals as goal

pub returns-then-n-gt-LONGEST_BODY : goal.returns-then-n-gt-LONGEST_BODY
unfolding slot_sound
returns-then-n-gt-LONGEST_BODY c = λ starts e. rw (← c.slot_length-n.ensures, lt-leb _ _ c.if-n-gt-LONGEST_BODY.true)

pub returns-then-slot_kind-ne4 : goal.returns-then-slot_kind-ne4
unfolding slot_sound
returns-then-slot_kind-ne4 c = λ starts e. rw (← c.slot_length-n.ensures, le-leb _ _ c.if-n-gt-LONGEST_BODY.false, ← c.slot_kind.ensures, ne_eqb _ _ c.if-slot_kind-ne4.true)

pub returns-then-not-is_ok : goal.returns-then-not-is_ok
unfolding slot_sound
returns-then-not-is_ok c = λ starts e. rw (← c.slot_length-n.ensures, le-leb _ _ c.if-n-gt-LONGEST_BODY.false, ← c.slot_kind.ensures, eq-eqb _ _ c.if-slot_kind-ne4.false, ← e, ok_accepted c.args.answer starts ∙ sym c.is_ok.ensures.value ∙ c.if-not-is_ok.true)

pub returns : goal.returns
unfolding slot_sound
returns c =
    λ starts e. rw (
      ← c.slot_length-n.ensures,
      le-leb _ _ c.if-n-gt-LONGEST_BODY.false,
      ← c.slot_kind.ensures,
      eq-eqb _ _ c.if-slot_kind-ne4.false,
      ← e,
      ok_accepted c.args.answer starts ∙ sym c.is_ok.ensures.value ∙ c.if-not-is_ok.false,
    ) c.all_zero.ensures
