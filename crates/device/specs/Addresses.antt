-- netaddr4, the element of RFC 8435's multipath_list4: "each a netid (1 to 8 bytes) and an address (1 to 64 bytes)"
use Rattle.std.specs.Prelude.{ℕ, List}
use Rattle.base.specs.Limits.{longest_address, longest_netid}
use Rattle.octets.specs.Numbers.{bytes_from}
use Rattle.xdr.specs.Parsed.{Parsed, ok, then}
use Rattle.xdr.specs.Items.{opaque_at}
use Rattle.device.specs.Netids.{class_of}
use Rattle.device.specs.declared.address.Address.{Address}
use Rattle.device.specs.declared.netid.NetidClass.TheVariants.{Other}

-- the netid becomes its class; of the address, where it is
unfoldable pub address_at : List ℕ → ℕ → Parsed Address
address_at s at =
    then (opaque_at 1 longest_netid s at) λ netid p.
    then (opaque_at 1 longest_address s p) λ text q.
    ok (record { class = class_of (bytes_from netid.len s netid.start); text = text }) q

-- what is in an entry without an address
abbrev pub blank_address : Address
blank_address = record { class = Other; text = record { start = 0; len = 0 } }
