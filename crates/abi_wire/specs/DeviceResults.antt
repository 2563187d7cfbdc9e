-- Device bodies in plain numbers: 0 and the values, or the refusal's number and zeros.
use Rattle.std.specs.Prelude.{ℕ, Bool, true, false, map, replicate}
use Rattle.base.specs.Limits.{most_addresses, most_versions}
use Rattle.base.specs.Answer.{Answer, accepted, refused}
use Rattle.device.specs.declared.address.Address.{Address}
use Rattle.device.specs.declared.netid.NetidClass.{NetidClass}
use Rattle.device.specs.declared.netid.NetidClass.TheVariants.{Other, Tcp, Tcp6, Udp, Udp6, Rdma, Rdma6}
use Rattle.device.specs.declared.version.Version.{Version}
use Rattle.device.specs.Bodies.{Device}
use Rattle.abi_wire.specs.LayoutResults.{no_part, part_record}
use Rattle.abi_wire.specs.declared.devices.AddressRecord.{AddressRecord}
use Rattle.abi_wire.specs.declared.devices.VersionRecord.{VersionRecord}
use Rattle.abi_wire.specs.declared.devices.DeviceResult.{DeviceResult}

abbrev pub class_number : NetidClass → ℕ
class_number Other = 0
class_number Tcp = 1
class_number Tcp6 = 2
class_number Udp = 3
class_number Udp6 = 4
class_number Rdma = 5
class_number Rdma6 = 6

abbrev pub address_record : Address → AddressRecord
address_record a = record { class = class_number a.class; text = part_record a.text }

abbrev pub tight_number : Bool → ℕ
tight_number true = 1
tight_number false = 0

abbrev pub version_record : Version → VersionRecord
version_record v = record {
  version = v.version;
  minor = v.minor;
  rsize = v.rsize;
  wsize = v.wsize;
  tight = tight_number v.tight;
}

abbrev pub no_address : AddressRecord
no_address = record { class = 0; text = no_part }

abbrev pub no_version : VersionRecord
no_version = record { version = 0; minor = 0; rsize = 0; wsize = 0; tight = 0 }

unfoldable pub device_result : Answer Device → DeviceResult
device_result (accepted d) = record {
  refusal = 0;
  address_count = d.count_of_addresses;
  version_count = d.count_of_versions;
  addresses = map address_record d.addresses;
  versions = map version_record d.versions;
}
device_result (refused n) = record {
  refusal = n;
  address_count = 0;
  version_count = 0;
  addresses = replicate most_addresses no_address;
  versions = replicate most_versions no_version;
}
