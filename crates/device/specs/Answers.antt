-- What the answer of the device body's reader says.
use Rattle.std.specs.Prelude.{List, Result, Ok, Err}
use Rattle.base.specs.Answer.{Answer, accepted, refused}
use Rattle.base.specs.Refusals.{fault_number}
use Rattle.base.specs.declared.refusal.Fault.{Fault}
use Rattle.device.specs.Bodies.{Device}
use Rattle.device.specs.declared.address.Address.{Address}
use Rattle.device.specs.declared.version.Version.{Version}
use Rattle.device.specs.declared.body.DeviceCounts.{DeviceCounts}
use Rattle.device.specs.declared.body.DeviceRead.{DeviceRead}

abbrev pub device_of : Result DeviceCounts Fault → List Address → List Version → Answer Device
device_of (Ok n) addresses versions =
    accepted (record {
      count_of_addresses = n.addresses;
      addresses = addresses;
      count_of_versions = n.versions;
      versions = versions;
    })
device_of (Err e) addresses versions = refused (fault_number e)

abbrev pub answer_of_device : DeviceRead → Answer Device
answer_of_device r = device_of r.answer r.addresses r.versions
