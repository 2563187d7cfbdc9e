-- The bytes of records on the wire. Bytes past a length are not among them.
use Rattle.std.specs.Prelude.{ℕ, ◌+◌, ◌<◌, ◌^◌, ◌≡◌, List, [], ◌∷◌, ◌++◌, length, take}
use Rattle.std.proofs.lemmas.List.Edits.{sets}
use Rattle.base.specs.Limits.{device_id_size, longest_address, longest_filehandle, longest_netid, stateid_size}
use Rattle.base.specs.Lists.{padded}
use Rattle.octets.specs.Numbers.{be_bytes}
use Rattle.xdr.specs.Items.{opaque_bytes}
use Rattle.statistics.specs.declared.Time.{Time}
use Rattle.statistics.specs.declared.IoInfo.{IoInfo}
use Rattle.statistics.specs.declared.Latency.{Latency}
use Rattle.statistics.specs.declared.Filehandle.{Filehandle}
use Rattle.statistics.specs.declared.Netaddr.{Netaddr}
use Rattle.statistics.specs.declared.LayoutUpdate.{LayoutUpdate}
use Rattle.statistics.specs.declared.Statistic.{Statistic}

unfoldable pub time_bytes : Time → List ℕ
time_bytes t = be_bytes 8 t.seconds ++ be_bytes 4 t.nanoseconds

unfoldable pub io_info_bytes : IoInfo → List ℕ
io_info_bytes i = be_bytes 8 i.count ++ be_bytes 8 i.bytes

unfoldable pub latency_bytes : Latency → List ℕ
latency_bytes l =
    be_bytes 8 l.ops_requested
    ++ (be_bytes 8 l.bytes_requested
    ++ (be_bytes 8 l.ops_completed
    ++ (be_bytes 8 l.bytes_completed
    ++ (be_bytes 8 l.bytes_not_delivered
    ++ (time_bytes l.busy ++ time_bytes l.completion)))))

unfoldable pub netaddr_bytes : Netaddr → List ℕ
netaddr_bytes a =
    opaque_bytes (take a.netid.length a.netid.bytes) ++ opaque_bytes (take a.text.length a.text.bytes)

unfoldable pub update_bytes : LayoutUpdate → List ℕ
update_bytes u =
    netaddr_bytes u.address
    ++ (opaque_bytes (take u.filehandle.length u.filehandle.bytes)
    ++ (latency_bytes u.read ++ (latency_bytes u.write ++ (time_bytes u.duration ++ be_bytes 4 u.local))))

unfoldable pub statistic_bytes : Statistic → List ℕ
statistic_bytes r =
    be_bytes 8 r.offset
    ++ (be_bytes 8 r.length
    ++ (r.stateid ++ (io_info_bytes r.read ++ (io_info_bytes r.write ++ (r.device ++ update_bytes r.update)))))

unfoldable pub statistics_bytes : List Statistic → List ℕ
statistics_bytes [] = []
statistics_bytes (r ∷ rs) = statistic_bytes r ++ statistics_bytes rs

-- what follows the reports: the count, then the records
unfoldable pub statistics_part : List Statistic → List ℕ
statistics_part rs = be_bytes 4 (length rs) ++ statistics_bytes rs

-- ---- a record with zeros past its lengths: "spare bytes past a length aside"

abbrev pub cleared_address : Netaddr → Netaddr
cleared_address a = record {
  netid = record {
    length = a.netid.length;
    bytes = padded longest_netid 0 (take a.netid.length a.netid.bytes);
  };
  text = record {
    length = a.text.length;
    bytes = padded longest_address 0 (take a.text.length a.text.bytes);
  };
}

abbrev pub cleared_handle : Filehandle → Filehandle
cleared_handle f = record { length = f.length; bytes = padded longest_filehandle 0 (take f.length f.bytes) }

abbrev pub cleared_update : LayoutUpdate → LayoutUpdate
cleared_update u = record {
  address = cleared_address u.address;
  filehandle = cleared_handle u.filehandle;
  read = u.read;
  write = u.write;
  duration = u.duration;
  local = u.local;
}

abbrev pub cleared : Statistic → Statistic
cleared r = record {
  offset = r.offset;
  length = r.length;
  stateid = r.stateid;
  read = r.read;
  write = r.write;
  device = r.device;
  update = cleared_update r.update;
}

-- ---- values as wide as their fields; what is judged is narrower

abbrev pub IoInfoFits : IoInfo → Type 0
IoInfoFits i = (i.count < 256 ^ 8) × (i.bytes < 256 ^ 8)

abbrev pub LatencyFits : Latency → Type 0
LatencyFits l =
    (l.ops_requested < 256 ^ 8)
    × (l.bytes_requested < 256 ^ 8)
    × (l.ops_completed < 256 ^ 8)
    × (l.bytes_completed < 256 ^ 8)
    × (l.bytes_not_delivered < 256 ^ 8)

pub record UpdateFits (u : LayoutUpdate) : Type 0 where
  pub netid : length u.address.netid.bytes ≡ longest_netid
  pub text : length u.address.text.bytes ≡ longest_address
  pub filehandle : length u.filehandle.bytes ≡ longest_filehandle
  pub read : LatencyFits u.read
  pub write : LatencyFits u.write

pub record StatisticFits (r : Statistic) : Type 0 where
  pub offset : r.offset < 256 ^ 8
  pub len : r.length < 256 ^ 8
  pub stateid : length r.stateid ≡ stateid_size
  pub read : IoInfoFits r.read
  pub write : IoInfoFits r.write
  pub device : length r.device ≡ device_id_size
  pub update : UpdateFits r.update

-- ---- inside this crate

-- m is the list l with the bytes bs stored at an offset, and p the offset after them
pub record PutAt (l : List ℕ) (at : ℕ) (bs m : List ℕ) (p : ℕ) : Type 0 where
  pub bytes : m ≡ sets l at bs
  pub next : p ≡ at + length bs
