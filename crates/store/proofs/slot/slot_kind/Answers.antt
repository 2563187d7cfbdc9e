-- `store::slot::slot_kind` meets its contract: the two bytes after the length.
use Rattle.store.specs.Store.{kind_in}
use Rattle.store.proofs.slot.slot_kind.Goals as goal

pub returns : goal.returns
unfolding kind_in
returns c = c.le2.ensures
