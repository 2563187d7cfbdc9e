-- `lookup::range::any_meets` meets its contract. The loop's invariant: no segment passed counts, so what is left decides.
use Rattle.std.proofs.Common.{sym, arith, ◌∙◌}
use Rattle.lookup.proofs.LookupLaws.{next_segment, no_segment}
use Rattle.segments.specs.Segments.{any_meets, blank}
use Rattle.lookup.proofs.range.any_meets.Goals as goal

pub returns-then-hits : goal.returns-then-hits
unfolding any_meets
returns-then-hits c =
    let l = c.loop-s in
    let items = c.used-s-items.result.now in
    rw (sym c.used-s-items.ensures, l.invariant, next_segment items l.s-index blank (omega arith), sym c.hits.ensures ∙ c.if-hits.true)

pub loop-s-preserved : goal.loop-s-preserved
unfolding any_meets
loop-s-preserved c =
    let l = c.loop-s in
    let items = c.used-s-items.result.now in
    rw (l.invariant, next_segment items l.s-index blank (omega arith), sym c.hits.ensures ∙ c.if-hits.false)

pub returns : goal.returns
unfolding any_meets
returns c =
    let l = c.loop-s in
    let items = c.used-s-items.result.now in
    rw (sym c.used-s-items.ensures, l.invariant, no_segment items l.s-index (omega arith))
