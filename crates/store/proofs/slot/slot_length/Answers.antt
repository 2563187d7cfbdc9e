-- `store::slot::slot_length` meets its contract: the first four bytes.
use Rattle.store.specs.Store.{length_in}
use Rattle.store.proofs.slot.slot_length.Goals as goal

pub returns : goal.returns
unfolding length_in
returns c = c.le4.ensures
