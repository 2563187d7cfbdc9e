-- `slots::choice::unnamed` meets its contract: the slots before the one looked at are all named.
use Rattle.slots.proofs.SearchLaws.{named_all, named_next, not_named}
use native.Mathlib.Omega.{arith}
use Rattle.slots.proofs.choice.unnamed.Goals as goal

pub returns-then-not-named-k : goal.returns-then-not-named-k
returns-then-not-named-k c = let l = c.loop-i in λ bytes. not_named _ bytes l.i (l.invariant bytes) (omega arith) (c.if-not-named-k.true)

pub loop-i-preserved : goal.loop-i-preserved
loop-i-preserved c =
    let l = c.loop-i in
    λ bytes. named_next _ bytes l.i (l.invariant bytes) (omega arith) (c.if-not-named-k.false)

pub returns : goal.returns
returns c = let l = c.loop-i in λ bytes. named_all _ bytes l.i (l.invariant bytes) (omega arith)
