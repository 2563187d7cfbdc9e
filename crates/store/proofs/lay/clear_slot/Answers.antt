-- `store::lay::clear_slot` meets its contract: zeros from the slot's start on are the empty slot.
use Prim.Native.Nat.{ℕ}
use Rattle.octets.specs.Buffers.{stored}
use Rattle.store.proofs.LayLaws.{cleared}
use lib.ListN.{replicate}
use mathlib.Core.Path.{sym, ap, ◌∙◌}
use Rattle.store.proofs.lay.clear_slot.Goals as goal

pub returns : goal.returns
returns c =
    c.put_zeros.ensures
    ∙ ap (λ (p : ℕ). stored c.args.store.now p (replicate 4096 0))
    c.start.ensures ∙ sym (cleared c.args.store.now c.args.i.0)
