-- `statistics::list::statistics_end` meets its contract. The loop's invariant: the records passed are allowed, so what is left decides.
use Rattle.std.proofs.Common.{◌≡◌, ◌+◌, ◌-◌, sym, ◌∙◌, arith}
use Rattle.std.proofs.lemmas.Grind.{common_steps}
use Rattle.statistics.proofs.StatisticStepLaws.{count_refused, statistic_read, statistic_refused, statistics_begun}
use Rattle.statistics.specs.Statistics.{statistic_at}
use Rattle.xdr.proofs.EndLaws.{first_refuses, none_end, others_end}
use Rattle.statistics.proofs.list.statistics_end.Goals as goal

pub returns-in_err-n : goal.returns-in_err-n
returns-in_err-n c = grind (arith, common_steps, count_refused)

pub loop-init : goal.loop-init
loop-init c =
    let all : c.in_ok-n.n - 0 ≡ c.in_ok-n.n = omega arith in
    rw (all, statistics_begun _ _ _ _ (sym c.in_ok-n.ensures))

pub returns-in_err-d : goal.returns-in_err-d
returns-in_err-d c = grind (arith, common_steps, statistic_refused, first_refuses)

pub loop-preserved : goal.loop-preserved
loop-preserved c =
    let l = c.loop in
    let left : c.in_ok-n.n - (l.counter + 1) ≡ c.in_ok-n.n - l.counter - 1 = omega arith in
    let item = statistic_read c.args.s.now l.d.at _ _ (sym c.in_ok-d.ensures) in
    rw left (l.invariant ∙ others_end statistic_at (c.in_ok-n.n - l.counter) c.args.s.now l.d.at _ _ (omega arith) item)

pub returns : goal.returns
returns c = grind (arith, common_steps, none_end)
