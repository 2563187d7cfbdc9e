-- `claims::starts_are_servers` joins what `layout` and `server` say of a start.
use Rattle.layout.proofs.LayoutLaws.{start_is_at}
use Rattle.server.proofs.ServerLaws.{server_read}
use Rattle.claims.proofs.starts_are_servers.Goals as goal

pub returns : goal.returns
returns _ =
    λ s l h m k hm hk.
    let i = start_is_at s l h m k hm hk in
    let v = server_read s _ i.server i.next i.read in
    record {
      server = i.server;
      next = i.next;
      read = i.read;
      device = v.device;
      efficiency = v.efficiency;
      stateid = v.stateid;
      handles = v.handles;
    }
