-- The device body, ff_device_addr4 of RFC 8435, 4.1: "address count (1 to 8), each ..; version count (1 to 8), each
-- ..".
use Rattle.std.specs.Prelude.{ℕ, List, length, replicate, leb}
use Rattle.base.specs.Answer.{Answer, accepted, refused, pick}
use Rattle.base.specs.Limits.{longest_device_body, most_addresses, most_versions}
use Rattle.xdr.specs.Parsed.{Parsed, ok, then, whole}
use Rattle.xdr.specs.CountedLists.{Listed, list_at}
use Rattle.device.specs.Addresses.{address_at, blank_address}
use Rattle.device.specs.Versions.{version_at, blank_version}
use Rattle.device.specs.declared.address.Address.{Address}
use Rattle.device.specs.declared.version.Version.{Version}

-- "address count (1 to 8), each a netid (1 to 8 bytes) and an address (1 to 64 bytes)"
abbrev pub addresses_at : List ℕ → ℕ → Parsed (Listed Address)
addresses_at s at = list_at 1 most_addresses address_at blank_address s at

-- "version count (1 to 8), each version, minor, rsize, wsize (4 each) and the tightly-coupled boolean"
abbrev pub versions_at : List ℕ → ℕ → Parsed (Listed Version)
versions_at s at = list_at 1 most_versions version_at blank_version s at

-- the addresses and the versions of one data server, in 8 entries each
pub record Device : Type 0 where
  pub count_of_addresses : ℕ
  pub addresses : List Address
  pub count_of_versions : ℕ
  pub versions : List Version

-- the body, front to back
unfoldable pub device_at : List ℕ → ℕ → Parsed Device
device_at s at =
    then (addresses_at s at) λ a p.
    then (versions_at s p) λ v q.
    ok (record { count_of_addresses = a.count; addresses = a.entries; count_of_versions = v.count; versions = v.entries }) q

-- "At most 2,048 bytes, tested first of all; nothing may follow."
unfoldable pub device_body : List ℕ → Answer Device
device_body s = pick (leb (length s) longest_device_body) (whole s (device_at s 0)) (refused 8)

-- "A refusal gives its number, no other result": all entries are blank then
abbrev pub addresses_in : Answer Device → List Address
addresses_in (accepted d) = d.addresses
addresses_in (refused n) = replicate most_addresses blank_address

abbrev pub versions_in : Answer Device → List Version
versions_in (accepted d) = d.versions
versions_in (refused n) = replicate most_versions blank_version
