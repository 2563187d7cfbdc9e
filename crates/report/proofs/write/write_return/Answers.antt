-- `report::write::write_return` meets its contract: the statistics' count, their bytes, then the body with them.
use Rattle.base.specs.Results.{answer_of}
use Rattle.report.proofs.ReturnLaws.{filled, return_of_encoded, return_of_refused}
use Rattle.report.proofs.ReportLaws.{length_refused}
use Rattle.report.proofs.ReturnRoundTrip.{too_many_refused}
use Rattle.report.proofs.StoringLaws.{written_refused}
use Rattle.report.specs.Writing.{entries_at}
use Rattle.xdr.proofs.Steps.{by_case}
use borrow.Author.Rules.{rules}
use lib.ListN.{length}
use lib.Seq.{length-take-le}
use mathlib.Core.List.{[]}
use mathlib.Core.Path.{◌≡◌, sym}
use native.Mathlib.Omega.{arith}
use Rattle.report.proofs.write.write_return.Goals as goal

pub returns-then-outgoing-gt-MOST_STATISTICS : goal.returns-then-outgoing-gt-MOST_STATISTICS
returns-then-outgoing-gt-MOST_STATISTICS c =
    let a = c.args in
    written_refused a.out.now _ 8 (too_many_refused a.outgoing (entries_at a.list_length a.errors.now 0) (length a.out.now) c.if-outgoing-gt-MOST_STATISTICS.true)

pub returns-in-Err : goal.returns-in-Err
returns-in-Err c =
    let a = c.args in
    let es = entries_at a.list_length a.errors.now 0 in
    let e = length_refused _ _ (sym (by_case answer_of c.encode_into.ensures.0 c.in-Err.is)) in
    rw (return_of_refused a.outgoing es (length a.out.now) c.if-outgoing-gt-MOST_STATISTICS.false _ [] e)
    c.write_body-in-Err.ensures

pub returns-in-Ok : goal.returns-in-Ok
returns-in-Ok c =
    let a = c.args in
    let es = entries_at a.list_length a.errors.now 0 in
    let part = c.encode_into in
    let m : length part.new.bytes ≡ 3492 = search rules in
    let x = filled _ _ _ 3492 (sym (by_case answer_of part.ensures.0 c.in-Ok.is)) part.ensures.1 m in
    rw (return_of_encoded a.outgoing es (length a.out.now) c.if-outgoing-gt-MOST_STATISTICS.false x.content x.were, ← x.taken)
    c.write_body.ensures

pub slice_bounds-write_body-end : goal.slice_bounds-write_body-end
slice_bounds-write_body-end c =
    let part = c.encode_into in
    let m : length part.new.bytes ≡ 3492 = search rules in
    let x = filled _ _ _ 3492 (sym (by_case answer_of part.ensures.0 c.in-Ok.is)) part.ensures.1 m in
    sym (length-take-le _ part.new.bytes (omega (arith, x.few, m)))

pub slice_bounds-tail-end : goal.slice_bounds-tail-end
slice_bounds-tail-end c =
    let part = c.encode_into in
    let m : length part.new.bytes ≡ 3492 = search rules in
    let x = filled _ _ _ 3492 (sym (by_case answer_of part.ensures.0 c.in-Ok.is)) part.ensures.1 m in
    omega (arith, x.few, m)
