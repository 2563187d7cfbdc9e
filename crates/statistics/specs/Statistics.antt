-- The records of statistics, ff_iostats4 of RFC 8435, 9.2.3, read: "range, stateid, read and write counts, device id,
-- and the layout update with address, filehandle, two latency blocks, duration and the local flag" (C-13).
use Rattle.std.specs.Prelude.{ℕ, List, replicate}
use Rattle.base.specs.Answer.{pick}
use Rattle.base.specs.Limits.{device_id_size, longest_address, longest_filehandle, longest_netid}
use Rattle.base.specs.Limits.{most_statistics, stateid_size}
use Rattle.base.specs.Lists.{padded}
use Rattle.octets.specs.Numbers.{bytes_from}
use Rattle.xdr.specs.Parsed.{Parsed, ok, fault, then, many_at}
use Rattle.xdr.specs.Items.{bool_at, bytes_at, count_at, opaque_at, range_at}
use Rattle.xdr.specs.CountedLists.{Listed, list_at}
use Rattle.xdr.specs.declared.Part.{Part}
use Rattle.statistics.specs.Latencies.{io_info_at, latency_at, time_at}
use Rattle.statistics.specs.declared.Time.{Time}
use Rattle.statistics.specs.declared.IoInfo.{IoInfo}
use Rattle.statistics.specs.declared.Latency.{Latency}
use Rattle.statistics.specs.declared.Netid.{Netid}
use Rattle.statistics.specs.declared.AddressText.{AddressText}
use Rattle.statistics.specs.declared.Filehandle.{Filehandle}
use Rattle.statistics.specs.declared.Netaddr.{Netaddr}
use Rattle.statistics.specs.declared.LayoutUpdate.{LayoutUpdate}
use Rattle.statistics.specs.declared.Statistic.{Statistic}
use Rattle.statistics.specs.declared.updates.NetaddrItem.{NetaddrItem}
use Rattle.statistics.specs.declared.updates.UpdateItem.{UpdateItem}
use Rattle.statistics.specs.declared.item.StatisticItem.{StatisticItem}

-- ---- numbers, and where the bytes are

-- netaddr4: "a netid (1 to 8 bytes) and an address (1 to 64 bytes)"; "ranges, addresses and filehandles have 01's
-- rules and limits"
unfoldable pub netaddr_at : List ℕ → ℕ → Parsed NetaddrItem
netaddr_at s at =
    then (opaque_at 1 longest_netid s at) λ netid p1.
    then (opaque_at 1 longest_address s p1) λ text p2.
    ok (record { netid = netid; text = text }) p2

-- ff_layoutupdate4: ffl_addr, ffl_fhandle ("a filehandle of 1 to 128 bytes"), ffl_read, ffl_write, ffl_duration,
-- ffl_local
unfoldable pub update_at : List ℕ → ℕ → Parsed UpdateItem
update_at s at =
    then (netaddr_at s at) λ address p1.
    then (opaque_at 1 longest_filehandle s p1) λ filehandle p2.
    then (latency_at s p2) λ read p3.
    then (latency_at s p3) λ write p4.
    then (time_at s p4) λ duration p5.
    then (bool_at s p5) λ local p6.
    ok (record {
      address = address;
      filehandle = filehandle;
      read = read;
      write = write;
      duration = duration;
      local = local;
    }) p6

-- ff_iostats4: ffis_offset, ffis_length, ffis_stateid, ffis_read, ffis_write, ffis_deviceid, ffis_layoutupdate
unfoldable pub item_at : List ℕ → ℕ → Parsed StatisticItem
item_at s at =
    then (range_at s at) λ range p1.
    then (bytes_at stateid_size s p1) λ stateid p2.
    then (io_info_at s p2) λ read p3.
    then (io_info_at s p3) λ write p4.
    then (bytes_at device_id_size s p4) λ device p5.
    then (update_at s p5) λ update p6.
    ok (record {
      range = range;
      stateid = stateid.start;
      read = read;
      write = write;
      device = device.start;
      update = update;
    }) p6

-- ---- with the bytes themselves: zeros past a length

abbrev pub netid_from : List ℕ → Part → Netid
netid_from s p = record { length = p.len; bytes = padded longest_netid 0 (bytes_from p.len s p.start) }

abbrev pub text_from : List ℕ → Part → AddressText
text_from s p = record { length = p.len; bytes = padded longest_address 0 (bytes_from p.len s p.start) }

abbrev pub filehandle_from : List ℕ → Part → Filehandle
filehandle_from s p = record { length = p.len; bytes = padded longest_filehandle 0 (bytes_from p.len s p.start) }

abbrev pub netaddr_from : List ℕ → NetaddrItem → Netaddr
netaddr_from s i = record { netid = netid_from s i.netid; text = text_from s i.text }

abbrev pub update_from : List ℕ → UpdateItem → LayoutUpdate
update_from s i = record {
  address = netaddr_from s i.address;
  filehandle = filehandle_from s i.filehandle;
  read = i.read;
  write = i.write;
  duration = i.duration;
  local = pick i.local 1 0;
}

abbrev pub statistic_from : List ℕ → StatisticItem → Statistic
statistic_from s i = record {
  offset = i.range.offset;
  length = i.range.length;
  stateid = bytes_from stateid_size s i.stateid;
  read = i.read;
  write = i.write;
  device = bytes_from device_id_size s i.device;
  update = update_from s i.update;
}

unfoldable pub statistic_at : List ℕ → ℕ → Parsed Statistic
statistic_at s at = then (item_at s at) λ i p. ok (statistic_from s i) p

-- ---- the list

-- "Read and write up to 8 `ff_iostats4` records"; "a count above 8 is 8"
unfoldable pub statistics_at : List ℕ → ℕ → Parsed (List Statistic)
statistics_at s at = then (count_at 0 most_statistics s at) λ n p. many_at statistic_at n s p

-- what is in an entry without a record
abbrev pub blank_time : Time
blank_time = record { seconds = 0; nanoseconds = 0 }

abbrev pub blank_io : IoInfo
blank_io = record { count = 0; bytes = 0 }

abbrev pub blank_latency : Latency
blank_latency = record {
  ops_requested = 0;
  bytes_requested = 0;
  ops_completed = 0;
  bytes_completed = 0;
  bytes_not_delivered = 0;
  busy = blank_time;
  completion = blank_time;
}

abbrev pub blank_statistic : Statistic
blank_statistic = record {
  offset = 0;
  length = 0;
  stateid = replicate stateid_size 0;
  read = blank_io;
  write = blank_io;
  device = replicate device_id_size 0;
  update = record {
    address = record {
      netid = record { length = 0; bytes = replicate longest_netid 0 };
      text = record { length = 0; bytes = replicate longest_address 0 };
    };
    filehandle = record { length = 0; bytes = replicate longest_filehandle 0 };
    read = blank_latency;
    write = blank_latency;
    duration = blank_time;
    local = 0;
  };
}

-- the same in an array of 8 entries
abbrev pub statistic_entries_at : List ℕ → ℕ → Parsed (Listed Statistic)
statistic_entries_at s at = list_at 0 most_statistics statistic_at blank_statistic s at

-- the entries of what was read; a refusal "gives its number, no other result"
abbrev pub entries_read : Parsed (Listed Statistic) → List Statistic
entries_read (ok v at) = v.entries
entries_read (fault n) = replicate most_statistics blank_statistic
