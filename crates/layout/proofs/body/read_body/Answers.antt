-- `layout::body::read_body` meets its contract: the length, then front, mirrors and tail, then nothing more.
use Rattle.std.proofs.Common.{sym, arith}
use Rattle.std.proofs.lemmas.Grind.{common_steps}
use Rattle.base.specs.Answer.{pick}
use Rattle.layout.proofs.FrontLaws.{front_read}
use Rattle.layout.proofs.StartTableLaws.{mirrors_have, mirrors_read_too, mirrors_refused_too, starts_filled}
use Rattle.layout.specs.Layouts.{layout_at, layout_body}
use Rattle.xdr.specs.Parsed.{then, whole}
use Rattle.layout.proofs.body.read_body.Goals as goal

pub read_mirrors-requires : goal.read_mirrors-requires
read_mirrors-requires c =
    let f = front_read c.args.s.now 0 _ _ (sym c.in_ok-front.ensures) in
    (c.if-s-gt-LONGEST_BODY.false, f.within, f.mirrors_few, f.servers_few)

pub returns-in_err-c2 : goal.returns-in_err-c2
unfolding layout_body layout_at then whole pick
returns-in_err-c2 c =
    let m = mirrors_refused_too 0 _ _ _ (sym c.in_err-c2.ensures) in
    grind (arith, common_steps)

pub returns-in_err-tail : goal.returns-in_err-tail
unfolding layout_body layout_at then whole pick
returns-in_err-tail c =
    let m = mirrors_read_too 0 _ _ _ _ (sym c.in_ok-c2.ensures) in
    let read = m.read in
    grind (arith, common_steps)

pub returns-then-c3-s : goal.returns-then-c3-s
unfolding layout_body layout_at then whole pick
returns-then-c3-s c =
    let m = mirrors_read_too 0 _ _ _ _ (sym c.in_ok-c2.ensures) in
    let read = m.read in
    grind (arith, common_steps)

pub returns : goal.returns
unfolding layout_body layout_at then whole pick
returns c =
    let f = front_read c.args.s.now 0 _ _ (sym c.in_ok-front.ensures) in
    let m = mirrors_read_too 0 _ _ _ _ (sym c.in_ok-c2.ensures) in
    let read = m.read in
    let r = mirrors_have _ _ c.args.s.now _ m.mirrors _ f.mirrors_some read in
    let filled = starts_filled _ m.mirrors f.servers_few r.each (omega (arith, r.count, f.mirrors_few)) in
    let table = m.table in
    grind (arith, common_steps)
