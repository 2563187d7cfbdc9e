-- `report::check::total` meets its contract. The loop's invariant: the sum so far and the counts left are all counts, the sum so far has
-- room, and the stateids left decide.
use Rattle.std.proofs.Common.{◌<◌, ◌≤◌, length, arith, ◌∙◌}
use Rattle.report.proofs.EntryLaws.{counts_next, counts_none, whole_next, whole_none}
use Rattle.report.proofs.check.total.Goals as goal

pub loop-head-preserved : goal.loop-head-preserved
loop-head-preserved c =
    let l = c.loop-head in
    let hs = c.args.heads.now in
    let h : l.head-index < length hs = omega arith in
    let a = counts_next hs l.head-index h in (
      l.invariant.0,
      omega (arith, l.invariant.1, c.errors_of-sum.ensures.bound),
      omega (arith, a, l.invariant.2, c.errors_of-sum.ensures.number),
      l.invariant.3 ∙ whole_next hs l.head-index h c.errors_of-sum.ensures.stateid,
    )

pub returns : goal.returns
returns c =
    let l = c.loop-head in
    let hs = c.args.heads.now in
    let z : length hs ≤ l.head-index = omega arith in
    record {
      sum = omega (arith, l.invariant.2, counts_none hs l.head-index z);
      stateids = l.invariant.3 ∙ whole_none hs l.head-index z;
    }
