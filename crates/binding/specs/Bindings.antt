-- "Given a layout body, a mirror and stripe number, a device body, the device id it was fetched under and the set of
-- spoken versions (bits 1, 2, 4, 8 for 3, 4.0, 4.1, 4.2). Check layout body, device body, 16, 8, 13, 14, 15."
use Rattle.std.specs.Prelude.{ℕ, ◌+◌, List, [], ◌∷◌, Bool, ◌&&◌, ◌||◌, not, get_or, replicate, take, leb, ltb, eqb}
use Rattle.base.specs.Limits.{device_id_size, every_version, longest_filehandle, stateid_size}
use Rattle.base.specs.Answer.{Answer, accepted, refused, given, pick}
use Rattle.base.specs.Bits.{bit}
use Rattle.octets.specs.Numbers.{bytes_from, same_bytes}
use Rattle.xdr.specs.Parsed.{Parsed, ok, fault, then}
use Rattle.xdr.specs.Items.{opaque_at}
use Rattle.xdr.specs.declared.Part.{Part}
use Rattle.server.specs.Servers.{handles_at, server_at}
use Rattle.server.specs.declared.item.Server.{Server}
use Rattle.layout.specs.Layouts.{layout_body, start_at}
use Rattle.device.specs.Bodies.{device_body}
use Rattle.device.specs.Versions.{blank_version}
use Rattle.device.specs.declared.version.Version.{Version}
use Rattle.binding.specs.declared.entry.Bound.{Bound}

-- go on where a test passes, else refuse with a number
unfoldable pub require : {A : Type 0} → Bool → ℕ → Answer A → Answer A
require test n next = pick test next (refused n)

-- an item, without the offset after it
unfoldable pub value_of : {A : Type 0} → Parsed A → Answer A
value_of (ok a at) = accepted a
value_of (fault n) = refused n

-- "bits 1, 2, 4, 8 for 3, 4.0, 4.1, 4.2"; an accepted entry is one of these four
unfoldable pub supports : ℕ → Version → Bool
supports set v =
    pick (eqb v.version 3) (bit 1 set)
    (pick (eqb v.minor 0) (bit 2 set) (pick (eqb v.minor 1) (bit 4 set) (bit 8 set)))

-- "The first device entry spoken is chosen": its number, counted from i; 14 where there is none
unfoldable pub chosen_from : ℕ → ℕ → List Version → Answer ℕ
chosen_from set i [] = refused 14
chosen_from set i (v ∷ vs) = pick (supports set v) (accepted i) (chosen_from set (i + 1) vs)

-- "and the filehandle at its place": the one after i others
unfoldable pub handle_at : ℕ → List ℕ → ℕ → Parsed Part
handle_at i s at = then (handles_at i s at) λ passed p. opaque_at 1 longest_filehandle s p

-- "device id, or filehandle and version counts, differ in binding" is 13
unfoldable pub matches : List ℕ → Server → ℕ → List ℕ → Bool
matches s server count id = same_bytes (bytes_from device_id_size s server.device) id && eqb server.handles count

-- "the chosen entry is version 4, not tight, and the server's stateid is not 16 zero bytes" is 15
unfoldable pub stateid_fits : List ℕ → Version → ℕ → Bool
stateid_fits s v stateid = not (eqb v.version 4)
    || (v.tight || same_bytes (bytes_from stateid_size s stateid) (replicate stateid_size 0))

-- what is not used of a binding
abbrev pub no_bytes : Part
no_bytes = record { start = 0; len = 0 }

-- "If tight, the stateid is used and user and group are not; else the reverse."
unfoldable pub bound : Server → Version → ℕ → Part → Bound
bound server v i handle =
    pick v.tight
    (record {
      entry = i;
      version = v;
      filehandle = handle;
      stateid = server.stateid;
      user = no_bytes;
      group = no_bytes;
    })
    (record { entry = i; version = v; filehandle = handle; stateid = 0; user = server.user; group = server.group })

-- a server and the entry chosen for it
unfoldable pub entry_bound : List ℕ → Server → Version → ℕ → Answer Bound
entry_bound s server v i =
    require (stateid_fits s v server.stateid) 15
    (given (value_of (handle_at i s server.first_handle)) λ handle. accepted (bound server v i handle))

-- the server that starts at an offset, against the device's first count entries
unfoldable pub server_bound : List ℕ → ℕ → List Version → ℕ → List ℕ → ℕ → Answer Bound
server_bound s start versions count id set =
    given (value_of (server_at s start)) λ server.
    require (matches s server count id) 13
    (given (chosen_from set 0 (take count versions)) λ i. entry_bound s server (get_or versions i blank_version) i)

-- "Check layout body, device body, 16, 8, 13, 14, 15."
unfoldable pub bound_to : List ℕ → ℕ → ℕ → List ℕ → List ℕ → ℕ → Answer Bound
bound_to layout mirror stripe device id set =
    given (layout_body layout) λ l.
    given (device_body device) λ d.
    require (ltb mirror l.summary.mirrors) 16
    (require (ltb stripe l.summary.servers) 16
    (require (leb set every_version) 8
    (server_bound layout (start_at l.starts mirror stripe) d.versions d.count_of_versions id set)))
