-- Which mirrors an I/O names.
use Rattle.std.specs.Prelude.{ℕ, ◌+◌, ◌-◌, ◌^◌, List}
use Rattle.base.specs.Best.{best}
use Rattle.octets.specs.Numbers.{be_at}
use Rattle.server.specs.Servers.{server_efficiency_offset}
use Rattle.layout.specs.Layouts.{start_at}

-- the efficiency of mirror m's server of a stripe
unfoldable pub efficiency_of : List ℕ → List ℕ → ℕ → ℕ → ℕ
efficiency_of body starts stripe m = be_at 4 body (start_at starts m stripe + server_efficiency_offset)

-- "the highest efficiency, lowest number on a tie", by the servers of one stripe
unfoldable pub best_mirror : List ℕ → List ℕ → ℕ → ℕ → ℕ
best_mirror body starts mirrors stripe = best (efficiency_of body starts stripe) (mirrors - 1)

-- "as a set of bits", bit 0 being mirror 0: a set of one mirror, and of the first n
abbrev pub only : ℕ → ℕ
only m = 2 ^ m

abbrev pub all_of : ℕ → ℕ
all_of n = 2 ^ n - 1
