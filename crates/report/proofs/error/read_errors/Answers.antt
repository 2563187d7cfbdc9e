-- `report::error::read_errors` meets its contract. The loop's invariant: the errors passed are allowed, so what is left decides.
use Rattle.std.proofs.Common.{◌≡◌, ◌+◌, ◌-◌, sym, ◌∙◌, arith}
use Rattle.std.proofs.lemmas.Grind.{common_steps}
use Rattle.report.specs.Reports.{error_at}
use Rattle.xdr.proofs.EndLaws.{first_refuses, none_end, others_end}
use Rattle.report.proofs.error.read_errors.Goals as goal

pub returns-in_err-d : goal.returns-in_err-d
returns-in_err-d c = grind (arith, common_steps, first_refuses)

pub loop-preserved : goal.loop-preserved
loop-preserved c =
    let l = c.loop in
    let left : c.args.n - (l.counter + 1) ≡ c.args.n - l.counter - 1 = omega arith in
    rw left (l.invariant ∙ others_end error_at (c.args.n - l.counter) c.args.s.now l.d.at _ _ (omega arith) (sym c.in_ok-d.ensures))

pub returns : goal.returns
returns c = grind (arith, common_steps, none_end)
