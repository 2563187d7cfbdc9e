-- `segments::empty_table` meets its contract: both sides compute to the same table.
use Rattle.base.specs.Lists.{padded}
use Rattle.segments.specs.Segments.{empty_table, in_entries}
use mathlib.Core.Path.{refl}
use Rattle.segments.proofs.empty_table.Goals as goal

pub returns : goal.returns
unfolding empty_table in_entries padded
returns _ = refl
