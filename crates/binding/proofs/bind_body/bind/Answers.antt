-- `binding::bind_body::bind` meets its contract: both bodies, then 16, 8, and the server.
use Rattle.std.specs.Prelude.{Result}
use Rattle.base.specs.declared.refusal.Fault.{Fault}
use Rattle.device.proofs.AcceptedDevice.{versions_read}
use Rattle.device.specs.Answers.{device_of}
use Rattle.device.specs.declared.body.DeviceCounts.{DeviceCounts}
use Rattle.xdr.proofs.Steps.{by_case}
use Rattle.binding.proofs.bind_body.bind.Goals as goal

pub bind_server-requires : goal.bind_server-requires
bind_server-requires c =
    let d = c.read_device-d in
    let says : Result DeviceCounts Fault → _ = λ x. device_of x d.result.addresses d.result.versions in
    (versions_read c.args.device.now _ (by_case says d.ensures.0 c.in_ok-counts.was)).high
