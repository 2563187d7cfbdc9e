-- `report::put::put_reports` meets its contract. The loop's invariant: what is still to be stored over the buffer now is what was to be stored
-- over the buffer at the start; the buffer has room for it and the entries are there.
use Prim.Native.Nat.{◌*◌, ◌<◌}
use Rattle.report.proofs.EntryLaws.{counts_next, no_head, reports_next, reports_none}
use Rattle.report.proofs.StoringLaws.{length_errors, length_head, report_stored}
use Rattle.report.specs.Writing.{counts, errors_bytes, head_bytes, entries_at}
use lib.ListN.{length, drop, get_or}
use lib.Seq.{sets}
use mathlib.Core.Path.{sym, ap, ◌∙◌}
use native.Mathlib.Omega.{arith}
use Rattle.report.proofs.put.put_reports.Goals as goal

pub put_errors-requires : goal.put_errors-requires
put_errors-requires c =
    let l = c.loop-head in
    let hs = c.args.heads.now in
    let a = counts_next hs l.head-index (omega arith) in
    (omega (arith, a, c.put_head.auto.out, l.invariant.0, l.invariant.2), omega (arith, a, l.invariant.1))

pub loop-head-preserved : goal.loop-head-preserved
loop-head-preserved c =
    let l = c.loop-head in
    let hs = c.args.heads.now in
    let errors = c.args.errors.now in
    let h : l.head-index < length hs = omega arith in
    let a = counts_next hs l.head-index h in
    let head = get_or hs l.head-index no_head in (
      omega (arith, a, l.invariant.0),
      omega (arith, a, l.invariant.1),
      c.put_errors.auto.out ∙ c.put_head.auto.out ∙ l.invariant.2,
      rw (
        l.invariant.3,
        reports_next hs l.head-index errors l.from h,
        c.put_errors.ensures,
        c.put_head.ensures.bytes,
      )
          (report_stored l.out l.p (24 * head.errors) (head_bytes head)
          (errors_bytes (entries_at head.errors errors l.from)) _
          (length_head head c.put_head.ensures.stateid)
          (length_errors head.errors errors l.from (omega (arith, a, l.invariant.1)))),
    )

pub returns : goal.returns
returns c =
    let l = c.loop-head in
    let hs = c.args.heads.now in
    let es = entries_at (counts (drop l.head-index hs)) c.args.errors.now l.from in
    sym (l.invariant.3 ∙ ap (sets l.out l.p) (reports_none hs l.head-index es (omega arith)))
