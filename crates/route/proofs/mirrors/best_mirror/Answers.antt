-- `route::mirrors::best_mirror` meets its contract. The loop's invariant: best is picked among the mirrors below m.
use Rattle.base.proofs.BestLaws.{picked_first, picked_last, picked_next, picked_still}
use Rattle.route.specs.Mirrors.{best_mirror}
use native.Mathlib.Omega.{arith}
use Rattle.route.proofs.mirrors.best_mirror.Goals as goal
use Rattle.route.proofs.mirrors.best_mirror.Goals.{then-highest-e, else-highest-e}

pub loop-m-init : goal.loop-m-init
loop-m-init c = picked_first _ _ c.efficiency-highest.ensures

pub loop-m-preserved : goal.loop-m-preserved
loop-m-preserved c =
    let l = c.loop-m in
    elim c.if-highest-e.branch [
      | then-highest-e w ↦ rw (w.best-is, w.highest-is) (picked_next _ l.m l.best l.highest _ l.invariant c.efficiency-e.ensures w.if-highest-e.true)
      | else-highest-e w ↦ rw (w.best-is, w.highest-is) (picked_still _ l.m l.best l.highest _ l.invariant c.efficiency-e.ensures w.if-highest-e.false)
    ]

pub returns : goal.returns
unfolding best_mirror
returns c = picked_last _ c.loop-m.m c.args.mirrors _ c.loop-m.highest c.loop-m.invariant (omega arith)
