use Rattle.std.proofs.Common.{◌≡◌, ◌+◌, ◌-◌, ◌*◌, ◌≤◌, length, drop}
use Rattle.report.specs.Writing.{counts, entries_at, reports_bytes}
use lib.Seq.{sets}
use Rattle.report.proofs.put.put_reports.Given as goal

abbrev pub invariant-loop-head : goal.invariant-loop-head
invariant-loop-head l =
    (l.p + 36 * (length l.heads - l.head-index) + 24 * counts (drop l.head-index l.heads) ≤ length l.initial.out)
    × (l.from + 24 * counts (drop l.head-index l.heads) ≤ length l.errors) × (length l.out ≡ length l.initial.out)
    × (sets l.initial.out 4 (reports_bytes l.heads (entries_at (counts l.heads) l.errors 0))
    ≡ sets l.out l.p (reports_bytes (drop l.head-index l.heads) (entries_at (counts (drop l.head-index l.heads)) l.errors l.from)))
