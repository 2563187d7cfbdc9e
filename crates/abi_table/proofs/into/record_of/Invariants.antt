use Rattle.abi_table.specs.TableRecords.{segment_record}
use lib.ListN.{length, take}
use mathlib.Core.List.{map}
use mathlib.Core.Path.{◌≡◌}
use Rattle.abi_table.proofs.into.record_of.Given as goal

abbrev pub invariant-loop-i : goal.invariant-loop-i
invariant-loop-i l =
    (length l.r.read ≡ 32) × (length l.r.rw ≡ 32)
    × (take l.i l.r.read ≡ map segment_record (take l.i l.g.items)) × (take l.i l.r.rw ≡ map segment_record (take l.i l.h.items))
    × (l.r.read_count ≡ l.g.count) × (l.r.rw_count ≡ l.h.count)
