use Rattle.std.proofs.Common.{◌≡◌, ◌-◌, ◌≤◌}
use Rattle.xdr.proofs.ListedLaws.{filled}
use Rattle.xdr.specs.Parsed.{many_at}
use Rattle.device.proofs.list.read_list.Given as goal

abbrev pub invariant-loop-i : goal.invariant-loop-i
invariant-loop-i g l =
    (l.n ≤ l.most)
    × (filled l.n l.initial.entries 0 (many_at g.T.Item.item_at l.n l.s l.initial.d.at)
    ≡ filled l.n l.entries l.i (many_at g.T.Item.item_at (l.n - l.i) l.s l.d.at))
