-- `soundness::lists::is_fit` meets its contract: the bytes are in order, and the right has a slot.
use Rattle.soundness.specs.Sound.{is_fit}
use borrow.Author.Tests.{le-leb, lt-leb}
use Rattle.soundness.proofs.lists.is_fit.Goals as goal

pub returns-then-s : goal.returns-then-s
unfolding is_fit
returns-then-s c = rw (lt-leb _ _ c.if-s.true)

pub returns : goal.returns
unfolding is_fit
returns c = rw (le-leb _ _ c.if-s.false) c.has_slot.ensures
