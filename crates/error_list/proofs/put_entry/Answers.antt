-- `error_list::put_entry` meets its contract: the entry is read back from the bytes that are stored.
use Prim.Native.Nat.{◌<◌, ◌^◌}
use Rattle.error_list.proofs.WireEntries.{entry_stored}
use Rattle.error_list.specs.Entries.{entry_of}
use borrow.Author.Rules.{rules}
use lib.ListN.{length}
use mathlib.Core.Path.{◌≡◌}
use Rattle.error_list.proofs.put_entry.Goals as goal

pub returns : goal.returns
returns c =
    let a = c.args in
    let k : length a.error.device ≡ 16 = search rules in
    let st : a.error.status < 256 ^ 4 = search rules in
    let op : a.error.operation < 256 ^ 4 = search rules in
    rw c.put_error.ensures
    (entry_stored a.buf.now a.i (entry_of a.error) (k, st, op) c.requires)
