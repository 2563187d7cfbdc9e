-- ff_data_server4 of RFC 8435, 5.1. "A server: device id (16), efficiency (4), stateid (16: a 4-byte seqid and 12
-- more), filehandle count (4) and filehandles, user, group."
use Rattle.std.specs.Prelude.{ℕ, ◌+◌, List}
use Rattle.base.specs.Limits.{device_id_size, longest_filehandle, longest_name, most_filehandles, stateid_size}
use Rattle.xdr.specs.Parsed.{Parsed, ok, then, many_at}
use Rattle.xdr.specs.Items.{bytes_at, count_at, num_at, opaque_at}
use Rattle.xdr.specs.declared.Part.{Part}
use Rattle.server.specs.declared.head.ServerHead.{ServerHead}
use Rattle.server.specs.declared.item.Server.{Server}

-- where efficiency, stateid and filehandle count are, from the server's start
abbrev pub server_efficiency_offset : ℕ
server_efficiency_offset = device_id_size

abbrev pub server_stateid_offset : ℕ
server_stateid_offset = server_efficiency_offset + 4

abbrev pub server_handles_offset : ℕ
server_handles_offset = server_stateid_offset + stateid_size

-- "1 to 8 filehandles a server"
unfoldable pub server_head_at : List ℕ → ℕ → Parsed ServerHead
server_head_at s at =
    then (bytes_at device_id_size s at) λ device p1.
    then (num_at 4 s p1) λ efficiency p2.
    then (bytes_at stateid_size s p2) λ stateid p3.
    then (count_at 1 most_filehandles s p3) λ handles p4.
    ok (record { device = device.start; efficiency = efficiency; stateid = stateid.start; handles = handles }) p4

-- "a filehandle of 1 to 128 bytes"
unfoldable pub handles_at : ℕ → List ℕ → ℕ → Parsed (List Part)
handles_at n s at = many_at (opaque_at 1 longest_filehandle) n s at

-- "user and group of 0 to 64 bytes, content not judged"
unfoldable pub server_at : List ℕ → ℕ → Parsed Server
server_at s at =
    then (server_head_at s at) λ head p1.
    then (handles_at head.handles s p1) λ handles p2.
    then (opaque_at 0 longest_name s p2) λ user p3.
    then (opaque_at 0 longest_name s p3) λ group p4.
    ok (record {
      device = head.device;
      efficiency = head.efficiency;
      stateid = head.stateid;
      handles = head.handles;
      first_handle = p1;
      user = user;
      group = group;
    }) p4
