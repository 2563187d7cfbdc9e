-- Reports and errors by their offsets in a body; what the two round trips speak of.
use Rattle.std.specs.Prelude.{ℕ, ◌+◌, ◌*◌, ◌^◌, ◌<◌, ◌≡◌, List, [], ◌∷◌, ◌++◌, length, take}
use Rattle.base.specs.Limits.{device_id_size, error_size, report_head_size, stateid_size}
use Rattle.statistics.specs.declared.Statistic.{Statistic}
use Rattle.report.specs.Reports.{LayoutReturn, Report}
use Rattle.report.specs.Answers.{statistic_entries, heads_of}
use Rattle.report.specs.declared.Outgoing.{Outgoing}
use Rattle.report.specs.declared.ReportHead.{ReportHead}
use Rattle.report.specs.Writing.{ErrorEntry, entries_at}

-- reports that are written from an offset on: 36 bytes, then the errors of 24 bytes each
unfoldable pub reports_from : List ReportHead → ℕ → List Report
reports_from [] at = []
reports_from (h ∷ hs) at = record { head = h; errors_offset = at + report_head_size }
    ∷ reports_from hs (at + report_head_size + error_size * h.errors)

-- the entries of the reports' errors, in order
unfoldable pub entries_in : List ℕ → List Report → List ErrorEntry
entries_in s [] = []
entries_in s (r ∷ rs) = entries_at r.head.errors s r.errors_offset ++ entries_in s rs

-- the records that are to be written
abbrev pub sent : Outgoing → List Statistic
sent o = take o.statistic_count o.statistics

-- what is written again of what was read
abbrev pub outgoing_of : LayoutReturn → Outgoing
outgoing_of r = record {
  count = length r.reports;
  heads = heads_of r.reports;
  statistic_count = length r.statistics;
  statistics = statistic_entries r.statistics;
}

-- ---- values as wide as their fields; an error count that may be written is at most 16

abbrev pub HeadFits : ReportHead → Type 0
HeadFits h = (h.offset < 256 ^ 8) × (h.length < 256 ^ 8) × (length h.stateid ≡ stateid_size)

abbrev pub EntryFits : ErrorEntry → Type 0
EntryFits e = (length e.device ≡ device_id_size) × (e.status < 256 ^ 4) × (e.operation < 256 ^ 4)
