-- `lookup::range::meets` meets its contract. The loop's invariant: no list that is passed meets.
use Rattle.lookup.specs.Lookup.{satisfies, table_meets}
use Rattle.lookup.specs.declared.range.Condition.{Condition}
use Rattle.segments.proofs.ModeLaws.{neither_is, one_is}
use Rattle.segments.specs.Segments.{any_meets, list_of}
use Rattle.segments.specs.declared.Segments.{Segments}
use Rattle.segments.specs.declared.Span.{Span}
use mathlib.Core.Bool.{Bool}
use mathlib.Core.Path.{sym, ap, ◌∙◌}
use native.Mathlib.Omega.{arith}
use Rattle.lookup.proofs.range.meets.Invariants.{test}
use Rattle.lookup.proofs.range.meets.Goals as goal

abbrev inList : Span → Condition → Segments → Bool
inList s c g = any_meets (satisfies c) s.first s.last (list_of g)

pub returns-then-any_meets : goal.returns-then-any_meets
unfolding table_meets
returns-then-any_meets c =
    let a = c.args in
    let e = ap (inList a.s a.c) (sym c.list_in-g.ensures)
    ∙ (sym c.any_meets.ensures ∙ c.if-any_meets.true) in
    sym (one_is (test a.t a.s a.c) c.loop-i.i
    (rw (sym c.acts_on.ensures ∙ c.if-acts_on.true) e))

pub returns : goal.returns
unfolding table_meets
returns c =
    let a = c.args in
    sym (neither_is (test a.t a.s a.c) c.loop-i.i c.loop-i.invariant (omega arith))
