-- `report::write::write_body` meets its contract: every test, then the bytes.
use Prim.Native.Nat.{◌≤◌, ◌<◌}
use Rattle.report.proofs.StoringLaws.{body_stored, fits, list_refused, many_refused, body_allowed, reports_refused, sizes, tail_refused, too_short, written_accepted, written_refused}
use Rattle.base.specs.Results.{answer_of}
use Rattle.report.specs.Writing.{body_bytes, counts, entries_at}
use Rattle.std.proofs.lemmas.Grind.{common_steps}
use lib.ListN.{length, take}
use lib.Seq.{length-take-le}
use mathlib.Core.Path.{◌≡◌, sym, ap, ◌∙◌}
use native.Mathlib.Omega.{arith}
use Rattle.report.proofs.write.write_body.Goals as goal

pub returns-then-count-gt-MOST_REPORTS : goal.returns-then-count-gt-MOST_REPORTS
returns-then-count-gt-MOST_REPORTS c =
    let a = c.args in
    written_refused a.out.now _ 8 (many_refused a.count a.heads (entries_at a.list_length a.errors.now 0) (answer_of a.checked) a.tail.now (length a.out.now) c.if-count-gt-MOST_REPORTS.true)

pub returns-then-total-list_length : goal.returns-then-total-list_length
returns-then-total-list_length c =
    let a = c.args in
    written_refused a.out.now _ 8
    (list_refused a.count a.heads a.list_length a.errors.now (answer_of a.checked) a.tail.now
    (length a.out.now) c.if-count-gt-MOST_REPORTS.false (λ e. c.if-total-list_length.true (c.total.ensures.sum ∙ e)))

pub returns-in_err-check_reports : goal.returns-in_err-check_reports
returns-in_err-check_reports c =
    let a = c.args in
    let q = sym (sym c.total.ensures.sum ∙ c.if-total-list_length.false) in
    let w = written_refused a.out.now _ _
    (reports_refused a.count a.heads a.list_length a.errors.now (answer_of a.checked) a.tail.now (length a.out.now)
    c.if-count-gt-MOST_REPORTS.false q _ (sym c.in_err-check_reports.ensures)) in
    grind (arith, common_steps, w)

pub returns-in_err-checked : goal.returns-in_err-checked
returns-in_err-checked c =
    let a = c.args in
    let q = sym (sym c.total.ensures.sum ∙ c.if-total-list_length.false) in
    let w = written_refused a.out.now _ _
    (tail_refused a.count a.heads a.list_length a.errors.now (answer_of a.checked) a.tail.now (length a.out.now)
    c.if-count-gt-MOST_REPORTS.false q (sym c.in_ok-check_reports.ensures) _ (ap answer_of c.in_err-checked.was)) in
    grind (arith, common_steps, w)

pub overflow_mul-before-2 : goal.overflow_mul-before-2
overflow_mul-before-2 c =
    let a = c.args in
    let total = c.total.ensures in
    let q = sym (sym total.sum ∙ c.if-total-list_length.false) in
    let j = sym c.in_ok-check_reports.ensures in
    let z = sizes a.count a.heads a.list_length a.errors.now a.tail.now
    c.if-count-gt-MOST_REPORTS.false c.well_formed.1.0.1.0.1 q total.stateids j in
    omega (arith, z.few)

pub overflow_add-before-2 : goal.overflow_add-before-2
overflow_add-before-2 c =
    let a = c.args in
    let total = c.total.ensures in
    let q = sym (sym total.sum ∙ c.if-total-list_length.false) in
    let j = sym c.in_ok-check_reports.ensures in
    let z = sizes a.count a.heads a.list_length a.errors.now a.tail.now
    c.if-count-gt-MOST_REPORTS.false c.well_formed.1.0.1.0.1 q total.stateids j in
    omega (arith, z.few, c.if-count-gt-MOST_REPORTS.false)

pub overflow_add-size : goal.overflow_add-size
overflow_add-size c =
    let a = c.args in
    let total = c.total.ensures in
    let q = sym (sym total.sum ∙ c.if-total-list_length.false) in
    let j = sym c.in_ok-check_reports.ensures in
    let z = sizes a.count a.heads a.list_length a.errors.now a.tail.now
    c.if-count-gt-MOST_REPORTS.false c.well_formed.1.0.1.0.1 q total.stateids j in
    omega (arith, z.few, c.if-count-gt-MOST_REPORTS.false, c.well_formed.1.1.1.1.1.0.1)

pub returns-then-out-size : goal.returns-then-out-size
returns-then-out-size c =
    let a = c.args in
    let total = c.total.ensures in
    let q = sym (sym total.sum ∙ c.if-total-list_length.false) in
    let j = sym c.in_ok-check_reports.ensures in
    let z = sizes a.count a.heads a.list_length a.errors.now a.tail.now
    c.if-count-gt-MOST_REPORTS.false c.well_formed.1.0.1.0.1 q total.stateids j in
    let l = a.out.now in
    let hs = take a.count a.heads in
    let es = entries_at (counts hs) a.errors.now 0 in
    let bs = body_bytes hs es a.tail.now in
    let n : length l < length bs = omega (arith, z.body, c.if-out-size.true) in
    let k = ap answer_of c.in_ok-checked.was in
    written_refused l _ 26
    (body_allowed a.count a.heads a.list_length a.errors.now (answer_of a.checked) a.tail.now (length l)
    c.if-count-gt-MOST_REPORTS.false q j k ∙ too_short bs _ n)

pub put_reports-requires : goal.put_reports-requires
put_reports-requires c =
    let a = c.args in
    let total = c.total.ensures in
    let q = sym (sym total.sum ∙ c.if-total-list_length.false) in
    let j = sym c.in_ok-check_reports.ensures in
    let z = sizes a.count a.heads a.list_length a.errors.now a.tail.now
    c.if-count-gt-MOST_REPORTS.false c.well_formed.1.0.1.0.1 q total.stateids j in
    let n : length (take a.count a.heads) ≡ a.count = length-take-le a.count a.heads (omega (arith, c.well_formed.1.0.1.0.1, c.if-count-gt-MOST_REPORTS.false)) in (
      omega (arith, n, c.if-count-gt-MOST_REPORTS.false),
      omega (arith, n, c.put_be4.auto.buf, z.few, z.body, q, c.if-out-size.false),
      z.inside,
    )

pub returns : goal.returns
returns c =
    let a = c.args in
    let total = c.total.ensures in
    let q = sym (sym total.sum ∙ c.if-total-list_length.false) in
    let j = sym c.in_ok-check_reports.ensures in
    let z = sizes a.count a.heads a.list_length a.errors.now a.tail.now
    c.if-count-gt-MOST_REPORTS.false c.well_formed.1.0.1.0.1 q total.stateids j in
    let l = a.out.now in
    let hs = take a.count a.heads in
    let es = entries_at (counts hs) a.errors.now 0 in
    let bs = body_bytes hs es a.tail.now in
    let n : length bs ≤ length l = omega (arith, z.body, c.if-out-size.false) in
    let k = ap answer_of c.in_ok-checked.was in
    written_accepted l _ _ bs _
    (body_allowed a.count a.heads a.list_length a.errors.now (answer_of a.checked) a.tail.now (length l)
    c.if-count-gt-MOST_REPORTS.false q j k ∙ fits bs (length l) n) (sym z.body)
    (rw (
      c.put_bytes.ensures,
      c.put_reports.ensures,
      c.put_be4.ensures,
    ) (body_stored l hs es a.tail.now a.count _ z.reports z.before c.if-out-size.false))
