use Rattle.std.proofs.Common.{◌≡◌, ◌-◌, ◌≤◌, length, List, []}
use Rattle.report.specs.Answers.{arrays_from, heads_of, offsets_of}
use Rattle.report.specs.Reports.{Report, report_at, reports_at}
use Rattle.xdr.specs.Parsed.{many_at}
use Rattle.report.proofs.body.reports_part.Given as goal

abbrev pub invariant-loop-i : goal.invariant-loop-i
invariant-loop-i l =
    (done : List Report) × (length done ≡ l.i) × (l.n ≤ 8) × (l.heads ≡ heads_of done) × (l.errors_at ≡ offsets_of done)
    × (arrays_from [] (reports_at l.s 0) ≡ arrays_from done (many_at report_at (l.n - l.i) l.s l.d.at))
