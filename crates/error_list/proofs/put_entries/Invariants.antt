use Rattle.std.proofs.Common.{◌≡◌, take}
use Rattle.report.specs.Writing.{entries_at}
use Rattle.error_list.specs.Entries.{entries_of}
use Rattle.error_list.proofs.put_entries.Given as goal

abbrev pub invariant-loop-i : goal.invariant-loop-i
invariant-loop-i l = entries_at l.i l.buf 0 ≡ entries_of (take l.i l.errors)
