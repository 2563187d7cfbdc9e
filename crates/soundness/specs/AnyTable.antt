-- A table and a store of whatever origin: what their types say of them, and the reference model that they show.
use Rattle.std.specs.Prelude.{ℕ, ◌≤◌, ◌≡◌, List, length}
use Rattle.base.specs.Limits.{most_segments}
use Rattle.base.specs.Lists.{Each}
use Rattle.base.specs.Ranges.{last_byte}
use Rattle.octets.specs.Numbers.{AllBytes}
use Rattle.segments.specs.declared.Segment.{Segment}
use Rattle.segments.specs.declared.Table.{Table}
use Rattle.segments.specs.Segments.{Mode, list_in, segments_for}
use Rattle.store.specs.Store.{store_of}
use Rattle.model.specs.Model.{Model, table_of}
use Rattle.model.specs.SlotsShown.{slots_in}
use Rattle.model.specs.Claim.{right_in}
use Rattle.model.specs.Invariants.{Invariant}

-- ---- what the types say

-- a segment that ends at byte N or before
abbrev pub EndsBy : ℕ → Segment → Type 0
EndsBy N s = s.last ≤ N

-- 32 entries an iomode, last bytes that are numbers up to N (2^64 - 1 in a call), and a store of bytes
pub record Typed (N : ℕ) (t : Table) (store : List ℕ) : Type 0 where
  pub entries : (m : Mode) → length (segments_for t m).items ≡ most_segments
  pub ends : (m : Mode) → Each (EndsBy N) (list_in t m)
  pub bytes : AllBytes store

-- ---- the model that they show

-- its rights are those of the table's segments, with their bodies; its slots those of the store
unfoldable pub model_of : Table → List ℕ → Model
model_of t store = record { right = right_in t store; slots = slots_in t store }

-- table and store are those of a model that events can lead to
pub record OfModel (t : Table) (store : List ℕ) : Type 0 where
  pub model : Model
  pub kept : Invariant last_byte model
  pub same_table : table_of last_byte model ≡ t
  pub same_store : store_of model.slots ≡ store
