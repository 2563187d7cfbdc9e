use Rattle.abi_table.proofs.RecordLaws.{Made}
use lib.ListN.{length}
use mathlib.Core.Path.{◌≡◌}
use Rattle.abi_table.proofs.from.table_of.Given as goal

abbrev pub invariant-loop-i : goal.invariant-loop-i
invariant-loop-i l =
    (length l.read.items ≡ 32) × (length l.rw.items ≡ 32) × Made l.r.read l.read.items l.i × Made l.r.rw l.rw.items l.i
    × (l.read.count ≡ l.r.read_count) × (l.rw.count ≡ l.r.rw_count)
