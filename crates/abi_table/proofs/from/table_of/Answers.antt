-- `abi_table::from::table_of` meets its contract. The loop's invariant: the records of each iomode stand for what was made of those passed, and then for
-- what the others stand for.
use Rattle.std.proofs.Common.{rules, ◌≡◌, length, [], refl, sym, ◌∙◌, arith}
use lib.ListN.{length-set}
use Rattle.base.proofs.ListLaws.{mapped_long}
use Rattle.abi_table.proofs.RecordLaws.{both_all, made_all, made_none, made_one, made_stops, none_left, none_right, was_accepted, was_refused}
use Rattle.abi_table.proofs.from.table_of.Goals as goal

pub loop-i-init : goal.loop-i-init
loop-i-init c = (refl, refl, made_none c.args.r.read [], made_none c.args.r.rw [], refl, refl)

pub returns-in_err-read : goal.returns-in_err-read
returns-in_err-read c =
    let l = c.loop-i in
    let r = c.args.r in
    let p : length r.read ≡ 32 = search (rules, mapped_long) in
    let w = was_refused _ (sym c.segment_of.ensures ∙ c.in_err-read.was) in
    c.from_residual.ensures ∙ none_left r w.0 (made_stops r.read l.read.items l.i _ (omega arith) l.invariant.2 w.0 w.1)

pub returns-in_err-rw : goal.returns-in_err-rw
returns-in_err-rw c =
    let l = c.loop-i in
    let r = c.args.r in
    let p : length r.rw ≡ 32 = search (rules, mapped_long) in
    let w = was_refused _ (sym c.segment_of-in-loop-i.ensures ∙ c.in_err-rw.was) in
    c.from_residual-in_err-rw.ensures ∙ none_right r w.0 (made_stops r.rw l.rw.items l.i _ (omega arith) l.invariant.3 w.0 w.1)

pub loop-i-preserved : goal.loop-i-preserved
loop-i-preserved c =
    let l = c.loop-i in
    let r = c.args.r in
    let p : length r.read ≡ 32 = search (rules, mapped_long) in
    let q : length r.rw ≡ 32 = search (rules, mapped_long) in
    let x = was_accepted _ _ (sym c.segment_of.ensures ∙ c.in_ok-read.was) in
    let y = was_accepted _ _ (sym c.segment_of-in-loop-i.ensures ∙ c.in_ok-rw.was) in (
      simp length-set l.invariant.0,
      simp length-set l.invariant.1,
      made_one r.read l.read.items l.i _ (omega arith) l.invariant.2 _ (omega arith) x,
      made_one r.rw l.rw.items l.i _ (omega arith) l.invariant.3 _ (omega arith) y,
      l.invariant.4,
      l.invariant.5,
    )

pub returns : goal.returns
returns c =
    let l = c.loop-i in
    let r = c.args.r in
    let p : length r.read ≡ 32 = search (rules, mapped_long) in
    let q : length r.rw ≡ 32 = search (rules, mapped_long) in
    rw (l.invariant.4, l.invariant.5)
    (both_all r l.read.items l.rw.items (made_all r.read l.read.items l.i (omega arith) (omega arith) l.invariant.2)
    (made_all r.rw l.rw.items l.i (omega arith) (omega arith) l.invariant.3))
