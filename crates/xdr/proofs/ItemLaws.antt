-- Laws of the items: which bytes are enough.
use Prim.Native.Nat.{ℕ, ◌+◌, ◌≤◌, ◌<◌}
use mathlib.Core.Path.{◌≡◌}
use mathlib.Core.List.{List}
use borrow.Author.Tests.{le-leb, lt-leb}
use lib.ListN.{length}
use Rattle.base.specs.Answer.{pick}
use Rattle.octets.specs.Numbers.{be_at}
use Rattle.xdr.specs.Parsed.{ok, fault}
use Rattle.xdr.specs.Items.{num_at, bytes_at, padding}

pub num_short : (k : ℕ) (s : List ℕ) (at : ℕ) → length s < at + k → num_at k s at ≡ fault 1
unfolding num_at pick
num_short k s at h = rw (lt-leb _ _ h)

pub num_there : (k : ℕ) (s : List ℕ) (at : ℕ) → at + k ≤ length s → num_at k s at ≡ ok (be_at k s at) (at + k)
unfolding num_at be_at pick
num_there k s at h = rw (le-leb _ _ h)

pub bytes_short : (n : ℕ) (s : List ℕ) (at : ℕ) → length s < at + n + padding n → bytes_at n s at ≡ fault 1
unfolding bytes_at pick
bytes_short n s at h = rw (lt-leb _ _ h)
