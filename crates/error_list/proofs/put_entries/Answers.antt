-- `error_list::put_entries` meets its contract. The loop's invariant: the entries of the errors passed are in the buffer.
use Rattle.std.proofs.Common.{refl}
use Rattle.report.specs.Writing.{entries_at}
use Rattle.error_list.proofs.put_entries.Goals as goal

pub loop-i-init : goal.loop-i-init
unfolding entries_at
loop-i-init _ = refl
