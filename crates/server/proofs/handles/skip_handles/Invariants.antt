use Rattle.std.proofs.Common.{◌≡◌, ◌-◌}
use Rattle.server.specs.Servers.{handles_at}
use Rattle.xdr.specs.Parsed.{end_of}
use Rattle.server.proofs.handles.skip_handles.Given as goal

abbrev pub invariant-loop : goal.invariant-loop
invariant-loop l = end_of (handles_at l.n l.s l.initial.d.at) ≡ end_of (handles_at (l.n - l.counter) l.s l.d.at)
