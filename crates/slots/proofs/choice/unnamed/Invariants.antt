use Prim.Native.Nat.{ℕ}
use Rattle.slots.proofs.SearchLaws.{NamedTo}
use Rattle.slots.specs.Slots.{is_set}
use mathlib.Core.List.{List}
use Rattle.slots.proofs.choice.unnamed.Given as goal

abbrev pub invariant-loop-i : goal.invariant-loop-i
invariant-loop-i l = ((bytes : List ℕ) → NamedTo (is_set l.named) bytes l.i)
