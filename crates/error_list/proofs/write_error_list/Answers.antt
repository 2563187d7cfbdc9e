-- `error_list::write_error_list` meets its contract: the wire entries of the first errors decide as the list does.
use Rattle.std.proofs.Common.{◌≤◌, length, arith}
use lib.Seq.{length-take-le}
use Rattle.error_list.proofs.WireEntries.{reports_from_lem}
use Rattle.error_list.proofs.write_error_list.Goals as goal

pub returns : goal.returns
returns c =
    let a = c.args in
    let n = c.entries_used-n.result in
    let few : n ≤ length a.errors.now = omega (arith, c.entries_used-n.ensures) in
    let wire = rw (length-take-le n a.errors.now few) at c.put_entries.ensures in
    rw (← (reports_from_lem a.count a.heads a.errors.now c.put_entries.new.buf n (length a.out.now)
    c.entries_used-n.ensures wire))
    c.write_reports.ensures
