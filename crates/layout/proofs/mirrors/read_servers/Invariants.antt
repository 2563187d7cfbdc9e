use Rattle.std.proofs.Common.{◌≡◌, ◌-◌, ◌≤◌, length}
use Rattle.layout.specs.Starts.{with_servers}
use Rattle.server.specs.Servers.{server_at}
use Rattle.xdr.specs.Parsed.{many_at}
use Rattle.layout.proofs.mirrors.read_servers.Given as goal

abbrev pub invariant-loop-start : goal.invariant-loop-start
invariant-loop-start l =
    (l.d.at ≤ length l.s)
    × (with_servers 0 (many_at server_at (length l.initial.row) l.s l.initial.d.at) l.initial.row
    ≡ with_servers l.start-index (many_at server_at (length l.row - l.start-index) l.s l.d.at) l.row)
