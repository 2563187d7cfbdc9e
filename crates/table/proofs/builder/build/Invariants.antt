use Rattle.std.proofs.Common.{[], ◌++◌, take}
use Rattle.table.specs.Builders.{Built}
use Rattle.table.specs.Edits.{after, before, inside, middle, parts, push_all}
use Rattle.table.specs.declared.change.Change.TheVariants.{Recall}
use Rattle.table.proofs.builder.build.Given as goal

abbrev pub invariant-loop-s : goal.invariant-loop-s
invariant-loop-s l = Built l.r (push_all [] (parts (before l.first) (take l.s-index l.segments)))

abbrev pub invariant-loop-s-2 : goal.invariant-loop-s-2
invariant-loop-s-2 l = Built l.r (push_all [] (parts (before l.first) l.segments ++ parts (inside Recall l.first l.last) (take l.s-index l.segments)))

abbrev pub invariant-loop-s-3 : goal.invariant-loop-s-3
invariant-loop-s-3 l =
    Built l.r (push_all [] ((parts (before l.fn.first) l.segments ++ middle l.fn.c l.fn.first l.fn.last l.segments) ++ parts (after l.last) (take l.s-index l.segments)))
