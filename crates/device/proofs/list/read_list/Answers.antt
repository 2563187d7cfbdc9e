-- `device::list::read_list` meets its contract. The loop's invariant: the items left, put after those in the entries now, are what all of them put
-- into the entries were at the start.
use Rattle.std.proofs.Common.{◌≡◌, ◌-◌, sym, ◌∙◌, arith}
use Rattle.std.proofs.lemmas.Grind.{common_steps}
use Rattle.xdr.proofs.Accepted.{count_read}
use Rattle.xdr.proofs.ListedLaws.{list_begun, list_refused, listed_next, listed_none, listed_refused}
use Rattle.device.proofs.list.read_list.Goals as goal

pub returns-in_err-n : goal.returns-in_err-n
returns-in_err-n g c = λ blank h.
    let r = list_refused g.T.Item.item_at 1 c.args.most blank c.args.s.now c.args.c.at _ (sym c.in_err-n.ensures) in
    grind (arith, common_steps)

pub loop-i-init : goal.loop-i-init
loop-i-init g c =
    let n = c.in_ok-n.n in
    let e : n - 0 ≡ n = omega arith in
    ((count_read 1 c.args.most _ _ _ _ (sym c.in_ok-n.ensures)).high, rw e)

pub returns-in_err-item : goal.returns-in_err-item
returns-in_err-item g c = λ blank h.
    let l = c.loop-i in
    let b = list_begun g.T.Item.item_at 1 c.args.most blank c.args.s.now c.args.c.at _ _ (sym c.in_ok-n.ensures) in
    let i = l.invariant.1 in
    let r = listed_refused g.T.Item.item_at c.in_ok-n.n l.entries l.i (c.in_ok-n.n - l.i) c.args.s.now l.d.at _ (omega arith) (sym c.in_err-item.ensures) in
    grind (arith, common_steps)

pub loop-i-preserved : goal.loop-i-preserved
loop-i-preserved g c =
    let l = c.loop-i in (
      l.invariant.0,
      l.invariant.1 ∙ listed_next g.T.Item.item_at c.in_ok-n.n l.entries l.i c.in_ok-n.n c.args.s.now l.d.at _ _ (omega arith) (sym c.in_ok-item.ensures),
    )

pub returns : goal.returns
returns g c = λ blank h.
    let l = c.loop-i in
    let b = list_begun g.T.Item.item_at 1 c.args.most blank c.args.s.now c.args.c.at _ _ (sym c.in_ok-n.ensures) in
    let i = l.invariant.1 in
    let r = listed_none g.T.Item.item_at c.in_ok-n.n l.entries l.i (c.in_ok-n.n - l.i) c.args.s.now l.d.at (omega arith) in
    grind (arith, common_steps)
