-- What the functions that take a record's bytes out of a body ask for: the bytes are there.
use Rattle.std.specs.Prelude.{ℕ, ◌+◌, ◌≤◌, List, length}
use Rattle.base.specs.Limits.{device_id_size, longest_address, longest_filehandle, longest_netid, stateid_size}
use Rattle.xdr.specs.declared.Part.{Part}
use Rattle.statistics.specs.declared.updates.NetaddrItem.{NetaddrItem}
use Rattle.statistics.specs.declared.updates.UpdateItem.{UpdateItem}
use Rattle.statistics.specs.declared.item.StatisticItem.{StatisticItem}

pub record PartInside (most : ℕ) (s : List ℕ) (p : Part) : Type 0 where
  pub few : p.len ≤ most
  pub room : p.start + p.len ≤ length s

pub record NetaddrInside (s : List ℕ) (i : NetaddrItem) : Type 0 where
  pub netid : PartInside longest_netid s i.netid
  pub text : PartInside longest_address s i.text

pub record UpdateInside (s : List ℕ) (i : UpdateItem) : Type 0 where
  pub address : NetaddrInside s i.address
  pub filehandle : PartInside longest_filehandle s i.filehandle

pub record ItemInside (s : List ℕ) (i : StatisticItem) : Type 0 where
  pub stateid : i.stateid + stateid_size ≤ length s
  pub device : i.device + device_id_size ≤ length s
  pub update : UpdateInside s i.update
