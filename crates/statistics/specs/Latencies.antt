-- Times, counts and latencies: nfstime4 (RFC 8881), io_info4 (RFC 7862) and ff_io_latency4 (RFC 8435, 9.2.1).
use Rattle.std.specs.Prelude.{ℕ, ◌+◌, ◌^◌, List, Bool, ◌&&◌, ltb}
use Rattle.base.specs.Answer.{pick}
use Rattle.octets.specs.Numbers.{be_at}
use Rattle.xdr.specs.Parsed.{Parsed, ok, fault, then}
use Rattle.xdr.specs.Items.{num_at}
use Rattle.statistics.specs.declared.Time.{Time}
use Rattle.statistics.specs.declared.IoInfo.{IoInfo}
use Rattle.statistics.specs.declared.Latency.{Latency}

-- "Nanoseconds are below 1,000,000,000 and seconds are signed and not negative (ours)": the 8 bytes of such seconds
-- are a number below 2^63
unfoldable pub time_fits : Time → Bool
time_fits t = ltb t.seconds (2 ^ 63) && ltb t.nanoseconds 1000000000

-- nfstime4: seconds, nanoseconds; "otherwise refusal 28, judged when both parts of the time are read"
unfoldable pub time_at : List ℕ → ℕ → Parsed Time
time_at s at =
    then (num_at 8 s at) λ seconds p1.
    then (num_at 4 s p1) λ nanoseconds p2.
    pick (time_fits (record { seconds = seconds; nanoseconds = nanoseconds }))
    (ok (record { seconds = seconds; nanoseconds = nanoseconds }) p2)
    (fault 28)

-- io_info4: ii_count, ii_bytes
unfoldable pub io_info_at : List ℕ → ℕ → Parsed IoInfo
io_info_at s at =
    then (num_at 8 s at) λ count p1.
    then (num_at 8 s p1) λ bytes p2.
    ok (record { count = count; bytes = bytes }) p2

-- ff_io_latency4: ffil_ops_requested, ffil_bytes_requested, ffil_ops_completed, ffil_bytes_completed,
-- ffil_bytes_not_delivered, ffil_total_busy_time, ffil_aggregate_completion_time
unfoldable pub latency_at : List ℕ → ℕ → Parsed Latency
latency_at s at =
    then (num_at 8 s at) λ opsRequested p1.
    then (num_at 8 s p1) λ bytesRequested p2.
    then (num_at 8 s p2) λ opsCompleted p3.
    then (num_at 8 s p3) λ bytesCompleted p4.
    then (num_at 8 s p4) λ bytesNotDelivered p5.
    then (time_at s p5) λ busy p6.
    then (time_at s p6) λ completion p7.
    ok (record {
      ops_requested = opsRequested;
      bytes_requested = bytesRequested;
      ops_completed = opsCompleted;
      bytes_completed = bytesCompleted;
      bytes_not_delivered = bytesNotDelivered;
      busy = busy;
      completion = completion;
    }) p7

-- ---- inside this crate

-- the five numbers of a latency together
abbrev pub counters_size : ℕ
counters_size = 40

-- a latency whose five numbers are at an offset
abbrev pub latency_from : List ℕ → ℕ → Time → Time → Latency
latency_from s at busy completion = record {
  ops_requested = be_at 8 s at;
  bytes_requested = be_at 8 s (at + 8);
  ops_completed = be_at 8 s (at + 16);
  bytes_completed = be_at 8 s (at + 24);
  bytes_not_delivered = be_at 8 s (at + 32);
  busy = busy;
  completion = completion;
}
