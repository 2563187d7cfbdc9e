-- `report::put::put_head` meets its contract: four parts, one after the other.
use Rattle.report.proofs.StoringLaws.{head_stored}
use borrow.Author.Rules.{rules}
use lib.ListN.{length}
use mathlib.Core.Path.{◌≡◌}
use native.Mathlib.Omega.{arith}
use Rattle.report.proofs.put.put_head.Goals as goal

pub returns : goal.returns
returns c =
    let e : length c.args.head.stateid ≡ 16 = search rules in
    record {
      bytes = rw (
        c.put_be4.ensures,
        c.put_bytes.ensures,
        c.put_be8-2.ensures,
        c.put_be8.ensures,
      ) (head_stored c.args.out.now c.args.at c.args.head e (omega arith));
      stateid = e;
    }
