-- `statistics::list::read_entries` meets its contract. The loop's invariant: the records left, put after those in the entries now, are
-- what all of them are.
use Rattle.std.proofs.Common.{◌≡◌, ◌-◌, refl, sym, ◌∙◌, arith, length-set}
use Rattle.std.proofs.lemmas.Grind.{common_steps}
use Rattle.statistics.proofs.PlaceLaws.{item_inside}
use Rattle.statistics.proofs.StatisticStepLaws.{statistic_read, statistic_refused}
use Rattle.statistics.specs.Statistics.{blank_statistic, statistic_at}
use Rattle.xdr.proofs.Accepted.{count_read}
use Rattle.xdr.proofs.ListedLaws.{list_begun, list_refused, listed_next, listed_none, listed_refused}
use Rattle.statistics.proofs.list.read_entries.Goals as goal

pub returns-in_err-n : goal.returns-in_err-n
returns-in_err-n c =
    let bad = list_refused statistic_at 0 8 blank_statistic _ _ _ (sym c.in_err-n.ensures) in
    grind (arith, common_steps, bad)

pub loop-i-init : goal.loop-i-init
loop-i-init c =
    let n = c.in_ok-n.n in
    let all : n - 0 ≡ n = omega arith in
    let h = sym c.in_ok-n.ensures in
    (rw c.requires refl, (count_read 0 8 _ _ _ _ h).high, rw (all, c.requires) (list_begun statistic_at 0 8 blank_statistic _ _ _ _ h))

pub returns-in_err-item : goal.returns-in_err-item
returns-in_err-item c =
    let l = c.loop-i in
    let bad = statistic_refused _ l.d.at _ (sym c.in_err-item.ensures) in
    let all = l.invariant.2 ∙ listed_refused statistic_at _ l.entries l.i _ _ l.d.at _ (omega arith) bad in
    grind (arith, common_steps, all)

pub statistic_of-requires : goal.statistic_of-requires
statistic_of-requires c = item_inside _ _ _ _ (sym c.in_ok-item.ensures)

pub loop-i-preserved : goal.loop-i-preserved
loop-i-preserved c =
    let l = c.loop-i in
    let good = statistic_read _ l.d.at _ _ (sym c.in_ok-item.ensures) in (
      simp length-set l.invariant.0,
      l.invariant.1,
      rw c.statistic_of.ensures (l.invariant.2 ∙ listed_next statistic_at _ l.entries l.i _ _ l.d.at _ _ (omega arith) good),
    )

pub returns : goal.returns
returns c =
    let l = c.loop-i in
    sym (l.invariant.2 ∙ listed_none statistic_at _ l.entries l.i _ _ l.d.at (omega arith))
