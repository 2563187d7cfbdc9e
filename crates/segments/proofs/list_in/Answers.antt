-- `segments::list_in` meets its contract: the number's test, both ways.
use Rattle.base.specs.Answer.{pick}
use borrow.Author.Tests.{eq-eqb, ne_eqb}
use Rattle.segments.proofs.list_in.Goals as goal

pub returns-then-i-eq-READ_LIST : goal.returns-then-i-eq-READ_LIST
unfolding pick
returns-then-i-eq-READ_LIST c = rw (eq-eqb _ _ c.if-i-eq-READ_LIST.true)

pub returns : goal.returns
unfolding pick
returns c = rw (ne_eqb _ _ c.if-i-eq-READ_LIST.false)
