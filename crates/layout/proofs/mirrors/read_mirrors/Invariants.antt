use Rattle.std.proofs.Common.{◌≡◌, ◌-◌, ◌*◌, ◌≤◌}
use Rattle.layout.specs.Layouts.{mirror_at}
use Rattle.layout.specs.Starts.{with_mirrors}
use Rattle.xdr.specs.Parsed.{many_at}
use Rattle.layout.proofs.mirrors.read_mirrors.Given as goal

abbrev pub invariant-loop-m : goal.invariant-loop-m
invariant-loop-m l =
    (1 ≤ l.m)
    × (with_mirrors 16 (many_at (mirror_at l.servers) (l.mirrors - 1) l.s l.initial.d.at) l.initial.starts
    ≡ with_mirrors (l.m * 16) (many_at (mirror_at l.servers) (l.mirrors - l.m) l.s l.d.at) l.starts)
