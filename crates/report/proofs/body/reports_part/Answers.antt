-- `report::body::reports_part` meets its contract. The loop's invariant: there is a list of the reports passed, the arrays hold it, and what is
-- left decides.
use Rattle.std.proofs.Common.{◌≡◌, ◌+◌, ◌-◌, length, [], ◌∷◌, ◌++◌, length-append, refl, sym, ◌∙◌, arith}
use Rattle.std.proofs.lemmas.Grind.{common_steps}
use Rattle.base.specs.Lists.{padded}
use Rattle.report.proofs.ReportLaws.{arrays_done, arrays_next, arrays_refused, count_no_arrays, heads_next, places_next, reports_begun, stateid_inside}
use Rattle.report.specs.Answers.{report_from}
use Rattle.report.specs.Reports.{Report}
use Rattle.xdr.proofs.Accepted.{count_read}
use Rattle.report.proofs.body.reports_part.Goals as goal

pub returns-in_err-n : goal.returns-in_err-n
returns-in_err-n c = grind (arith, common_steps, count_no_arrays)

pub loop-i-init : goal.loop-i-init
unfolding padded
loop-i-init c =
    let n = c.in_ok-n.n in
    let all : n - 0 ≡ n = omega arith in
    let h = sym c.in_ok-n.ensures in
    ([], refl, (count_read 0 8 _ _ _ _ h).high, c.requires.0, c.requires.1, rw (all, reports_begun _ _ _ _ h))

pub returns-in_err-report : goal.returns-in_err-report
returns-in_err-report c =
    let l = c.loop-i in
    let bad = l.invariant.5 ∙ arrays_refused l.invariant.0 (c.in_ok-n.n - l.i) c.args.s.now l.d.at _ (omega arith) (sym c.in_err-report.ensures) in
    grind (arith, common_steps, bad)

pub head_of-requires : goal.head_of-requires
head_of-requires c = stateid_inside c.args.s.now c.loop-i.d.at _ _ _ (sym c.in_ok-report.ensures)

pub loop-i-preserved : goal.loop-i-preserved
loop-i-preserved c =
    let l = c.loop-i in
    let s = c.args.s.now in
    let left : c.in_ok-n.n - (l.i + 1) ≡ c.in_ok-n.n - l.i - 1 = omega arith in
    let r : Report = report_from s c.in_ok-report.report in
    let n : length (l.invariant.0 ++ (r ∷ [])) ≡ l.i + 1 = simp length-append (omega (arith, l.invariant.1)) in (
      l.invariant.0 ++ (r ∷ []),
      n,
      l.invariant.2,
      rw (l.invariant.3, c.head_of.ensures, heads_next l.invariant.0 l.i r l.invariant.1 (omega arith)),
      rw (l.invariant.4, places_next l.invariant.0 l.i r l.invariant.1 (omega arith)),
      rw left (l.invariant.5 ∙ arrays_next l.invariant.0 (c.in_ok-n.n - l.i) s l.d.at r _ (omega arith) (sym c.in_ok-report.ensures)),
    )

pub returns : goal.returns
returns c =
    let l = c.loop-i in
    let e : length l.invariant.0 ≡ c.in_ok-n.n = l.invariant.1 ∙ omega arith in
    rw (l.invariant.5, l.invariant.3, l.invariant.4, arrays_done l.invariant.0 (c.in_ok-n.n - l.i) c.args.s.now l.d.at (omega arith), e)
