-- `abi_table::into::record_of` meets its contract. The loop's invariant: the records made are those of the segments passed, in each iomode.
use Rattle.base.proofs.ListLaws.{map_all, mapped_long}
use Rattle.abi_table.specs.TableRecords.{record_of, segment_record}
use borrow.Author.Rules.{rules}
use lib.ListN.{length}
use mathlib.Core.Path.{◌≡◌}
use native.Mathlib.Omega.{arith}
use Rattle.abi_table.proofs.into.record_of.Goals as goal

pub returns : goal.returns
unfolding record_of
returns c =
    let l = c.loop-i in
    let t = c.args.t in
    let p : length t.read.items ≡ 32 = search (rules, mapped_long) in
    let q : length t.rw.items ≡ 32 = search (rules, mapped_long) in
    λ i. record {
      read = map_all segment_record t.read.items l.r.read l.i (omega arith) (omega arith) l.invariant.2 i;
      rw = map_all segment_record t.rw.items l.r.rw l.i (omega arith) (omega arith) l.invariant.3 i;
      read_count = l.invariant.4 i;
      rw_count = l.invariant.5 i;
    }
