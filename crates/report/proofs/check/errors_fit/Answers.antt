-- `report::check::errors_fit` meets its contract. The loop's invariant: the entries passed are allowed, so what is left decides.
use Rattle.std.proofs.Common.{◌≡◌, ◌+◌, ◌-◌, arith}
use Rattle.report.proofs.EntryLaws.{fits_next, fits_none}
use Rattle.report.proofs.check.errors_fit.Goals as goal

pub returns-then-not-error_fits : goal.returns-then-not-error_fits
returns-then-not-error_fits c =
    let l = c.loop in
    rw (
      l.invariant.1,
      fits_next (c.args.n - l.counter) c.args.errors.now l.at _ _ _ (omega arith)
          c.be4-status.ensures c.be4-operation.ensures c.error_fits.ensures,
      c.if-not-error_fits.true,
    )

pub loop-preserved : goal.loop-preserved
loop-preserved c =
    let l = c.loop in
    let left : c.args.n - (l.counter + 1) ≡ c.args.n - l.counter - 1 = omega arith in (
      omega (arith, l.invariant.0),
      rw (
        left,
        l.invariant.1,
        fits_next (c.args.n - l.counter) c.args.errors.now l.at _ _ _ (omega arith)
            c.be4-status.ensures c.be4-operation.ensures
            c.error_fits.ensures,
        c.if-not-error_fits.false,
      ),
    )

pub returns : goal.returns
returns c =
    let l = c.loop in
    rw (l.invariant.1, fits_none (c.args.n - l.counter) c.args.errors.now l.at (omega arith))
