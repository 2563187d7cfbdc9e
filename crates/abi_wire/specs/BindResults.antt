-- Bindings in plain numbers: 0 and the values, or the refusal's number and zeros.
use Rattle.base.specs.Answer.{Answer, accepted, refused}
use Rattle.binding.specs.declared.entry.Bound.{Bound}
use Rattle.abi_wire.specs.LayoutResults.{no_part, part_record}
use Rattle.abi_wire.specs.DeviceResults.{no_version, version_record}
use Rattle.abi_wire.specs.declared.bindings.BindResult.{BindResult}

unfoldable pub bind_result : Answer Bound → BindResult
bind_result (accepted b) = record {
  refusal = 0;
  entry = b.entry;
  version = version_record b.version;
  filehandle = part_record b.filehandle;
  stateid = b.stateid;
  user = part_record b.user;
  group = part_record b.group;
}
bind_result (refused n) = record {
  refusal = n;
  entry = 0;
  version = no_version;
  filehandle = no_part;
  stateid = 0;
  user = no_part;
  group = no_part;
}
