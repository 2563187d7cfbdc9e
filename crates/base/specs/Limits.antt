-- The limits and sizes of the scope, once each.
use Rattle.std.specs.Prelude.{ℕ, ◌+◌, ◌*◌}

-- "body at most 4,090 bytes"
abbrev pub longest_body : ℕ
longest_body = 4090

-- "1 to 8 mirrors"
abbrev pub most_mirrors : ℕ
most_mirrors = 8

-- "1 to 16 servers a mirror"
abbrev pub most_servers : ℕ
most_servers = 16

-- "where each server starts, by mirror and by stripe .. with 0 in unused places"
abbrev pub most_starts : ℕ
most_starts = most_mirrors * most_servers

-- "1 to 8 filehandles a server"
abbrev pub most_filehandles : ℕ
most_filehandles = 8

-- "a filehandle of 1 to 128 bytes"
abbrev pub longest_filehandle : ℕ
longest_filehandle = 128

-- "user and group of 0 to 64 bytes"
abbrev pub longest_name : ℕ
longest_name = 64

-- "Flags are bits 1 .., 2 .., 4 .., 8 ..; any other bit is refused"
abbrev pub known_flags : ℕ
known_flags = 15

-- "the set of spoken versions (bits 1, 2, 4, 8 for 3, 4.0, 4.1, 4.2)"
abbrev pub every_version : ℕ
every_version = 15

-- "device id (16)"
abbrev pub device_id_size : ℕ
device_id_size = 16

-- "stateid (16: a 4-byte seqid and 12 more)"
abbrev pub stateid_size : ℕ
stateid_size = 16

-- A device body: "At most 2,048 bytes".
abbrev pub longest_device_body : ℕ
longest_device_body = 2048

-- "address count (1 to 8)"
abbrev pub most_addresses : ℕ
most_addresses = 8

-- "a netid (1 to 8 bytes)"
abbrev pub longest_netid : ℕ
longest_netid = 8

-- "an address (1 to 64 bytes)"
abbrev pub longest_address : ℕ
longest_address = 64

-- "version count (1 to 8)"
abbrev pub most_versions : ℕ
most_versions = 8

-- "at most 32 an iomode"
abbrev pub most_segments : ℕ
most_segments = 32

-- "8 slots of 4,096"
abbrev pub slot_count : ℕ
slot_count = 8

abbrev pub slot_size : ℕ
slot_size = 4096

-- "a lent buffer of 32,768 bytes"
abbrev pub store_size : ℕ
store_size = slot_count * slot_size

-- What is before the body in a slot: "length (4 bytes, little-endian), kind (2 bytes, little-endian, value 4)".
abbrev pub slot_head_size : ℕ
slot_head_size = 6

-- "Report count (0 to 8)"
abbrev pub most_reports : ℕ
most_reports = 8

-- "error count (1 to 16)", of one report
abbrev pub most_errors : ℕ
most_errors = 16

-- the errors of all reports together
abbrev pub most_errors_in_all : ℕ
most_errors_in_all = most_reports * most_errors

-- A report before its errors: "offset, length .., stateid, error count".
abbrev pub report_head_size : ℕ
report_head_size = 36

-- "errors of device id, status, operation"
abbrev pub error_size : ℕ
error_size = 24

-- "Read and write up to 8 `ff_iostats4` records" (C-13)
abbrev pub most_statistics : ℕ
most_statistics = 8

-- the shortest and the longest record: 80 bytes before the netid, three lengths, netid, address and filehandle with
-- their padding, and 144 bytes after them
abbrev pub shortest_statistic : ℕ
shortest_statistic = 80 + 12 + (4 + 4 + 4) + 144

abbrev pub longest_statistic : ℕ
longest_statistic = 80 + 12 + (longest_netid + longest_address + longest_filehandle) + 144

-- the count and the longest records
abbrev pub longest_statistics : ℕ
longest_statistics = 4 + most_statistics * longest_statistic
