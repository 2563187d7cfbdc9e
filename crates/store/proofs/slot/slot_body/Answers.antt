-- `store::slot::slot_body` meets its contract: as many bytes after the kind as the length says.
use Prim.Native.Nat.{ℕ}
use Rattle.octets.specs.Numbers.{bytes_from}
use Rattle.store.specs.Store.{body_in}
use mathlib.Core.Path.{ap, ◌∙◌}
use Rattle.store.proofs.slot.slot_body.Goals as goal

pub returns : goal.returns
unfolding body_in
returns c = c.bytes_from.ensures ∙ ap (λ (n : ℕ). bytes_from n c.args.slot.now 6) c.slot_length-n.ensures
