-- `store::lay::lay_body` meets its contract: length, kind, body and zeros one after the other are the slot.
use Rattle.store.proofs.LayLaws.{laid, no_slot, too_long}
use Rattle.store.proofs.SlotLaws.{length_slot}
use Rattle.store.specs.Store.{holds}
use mathlib.Core.Path.{sym}
use native.Mathlib.Omega.{arith}
use Rattle.store.proofs.lay.lay_body.Goals as goal

pub returns-then-n-gt-ROOM : goal.returns-then-n-gt-ROOM
returns-then-n-gt-ROOM c = sym (too_long c.args.store.now c.args.i.0 c.args.body.now c.if-n-gt-ROOM.true)

pub returns-then-store-at : goal.returns-then-store-at
returns-then-store-at c =
    let b = c.args.body.now in
    sym (no_slot c.args.store.now c.args.i.0 (holds b) (length_slot b (omega arith)) (omega arith))

pub returns-then-store-at-lt-SLOT_SIZE : goal.returns-then-store-at-lt-SLOT_SIZE
returns-then-store-at-lt-SLOT_SIZE c =
    let b = c.args.body.now in
    sym (no_slot c.args.store.now c.args.i.0 (holds b) (length_slot b (omega arith)) (omega arith))

pub returns : goal.returns
returns c =
    let a = c.args in
    rw (
      c.put_zeros.ensures,
      c.put_bytes.ensures,
      c.put_le2.ensures,
      c.put_le4.ensures,
      c.start-at.ensures,
    ) (laid a.store.now a.i.0 a.body.now (omega arith) (omega arith))
