-- `abi_wire::devices::address_records` meets its contract. The loop's invariant: the entries made are those of the ones passed.
use Rattle.abi_wire.specs.DeviceResults.{address_record}
use lib.ListN.{length, take}
use mathlib.Core.List.{map}
use mathlib.Core.Path.{◌≡◌}
use Rattle.abi_wire.proofs.devices.address_records.Given as goal

abbrev pub invariant-loop-i : goal.invariant-loop-i
invariant-loop-i l = (length l.made ≡ 8) × (take l.i l.made ≡ map address_record (take l.i l.items))
