-- What is judged of records that are to be written: each as reading would judge it, in the order of the wire.
use Rattle.std.specs.Prelude.{ℕ, List, [], ◌∷◌, Bool, ◌&&◌, leb}
use Rattle.base.specs.Answer.{Answer, accepted, refused, given, pick}
use Rattle.base.specs.Limits.{longest_address, longest_filehandle, longest_netid}
use Rattle.base.specs.Ranges.{range_last}
use Rattle.statistics.specs.Latencies.{time_fits}
use Rattle.statistics.specs.declared.LayoutUpdate.{LayoutUpdate}
use Rattle.statistics.specs.declared.Statistic.{Statistic}

-- a length of 1 to `most`
unfoldable pub length_fits : ℕ → ℕ → Bool
length_fits most n = leb 1 n && leb n most

-- "addresses and filehandles have 01's rules and limits"
unfoldable pub lengths_fit : LayoutUpdate → Bool
lengths_fit u =
    length_fits longest_netid u.address.netid.length
    && (length_fits longest_address u.address.text.length && length_fits longest_filehandle u.filehandle.length)

-- the five times
unfoldable pub times_fit : LayoutUpdate → Bool
times_fit u =
    time_fits u.read.busy
    && (time_fits u.read.completion
    && (time_fits u.write.busy && (time_fits u.write.completion && time_fits u.duration)))

-- the range (5), the lengths (8), the times (28), the local flag (7)
unfoldable pub checked_statistic : Statistic → Answer (Unit {0})
checked_statistic r =
    given (range_last r.offset r.length) λ last.
    pick (lengths_fit r.update)
    (pick (times_fit r.update) (pick (leb r.update.local 1) (accepted tt) (refused 7)) (refused 28))
    (refused 8)

-- "the records after the reports", in order
unfoldable pub checked_statistics : List Statistic → Answer (Unit {0})
checked_statistics [] = accepted tt
checked_statistics (r ∷ rs) = given (checked_statistic r) λ u. checked_statistics rs
