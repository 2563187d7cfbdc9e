use Rattle.std.proofs.Common.{◌≡◌, ◌+◌, ◌*◌, ◌≤◌, length, drop}
use Rattle.report.specs.Writing.{counts, stateids_whole}
use Rattle.report.proofs.check.total.Given as goal

abbrev pub invariant-loop-head : goal.invariant-loop-head
invariant-loop-head l =
    (length l.heads ≤ 8) × (l.sum ≤ 4294967295 * l.head-index) × (counts l.heads ≡ l.sum + counts (drop l.head-index l.heads))
    × (stateids_whole l.heads ≡ stateids_whole (drop l.head-index l.heads))
