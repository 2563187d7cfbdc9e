-- `soundness::distinct::is_held_again` meets its contract: the slot is not named, or the later slots decide.
use Rattle.lookup.proofs.NamedLaws.{named_here}
use mathlib.Core.Path.{◌∙◌}
use Rattle.soundness.proofs.distinct.is_held_again.Goals as goal

pub returns-then-not-named-k : goal.returns-then-not-named-k
returns-then-not-named-k c = λ t e. rw (named_here t _ c.args.i.0 e c.requires ∙ c.if-not-named-k.true)

pub returns : goal.returns
returns c =
    λ t e. rw (
      named_here t _ c.args.i.0 e c.requires ∙ c.if-not-named-k.false,
      ← c.slot_bytes-slot.ensures,
      ← c.slot_body-body.ensures,
    ) (c.is_held_from.ensures t e)
