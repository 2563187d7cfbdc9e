-- `table::builder::build` meets its contract. The loops' invariants: the builder holds the parts that they have passed.
use mathlib.Core.List.{[], ◌∷◌, ◌++◌, append-nil, append_assoc}
use Rattle.segments.specs.Segments.{blank}
use Rattle.table.specs.declared.change.Change.TheVariants.{Recall}
use Rattle.table.specs.Edits.{after, before, edited, inside, middle, parts, push_all}
use Rattle.table.proofs.BuilderLaws.{all_pushed, part_pushed}
use Rattle.table.proofs.ChangeLaws.{clear_leaves_nothing}
use Rattle.table.proofs.PushLists.{push_all_append}
use Rattle.table.proofs.builder.build.Goals as goal
use Rattle.table.proofs.builder.build.Goals.{in-Grant, in-Clear, in-Recall+else-loop-s-2-test}

pub loop-s-init : goal.loop-s-init
unfolding parts push_all
loop-s-init c = c.empty_builder-r.ensures

pub loop-s-preserved : goal.loop-s-preserved
loop-s-preserved c =
    let a = c.args in
    part_pushed c.push.new.self (before a.first) a.segments.now [] _ c.loop-s.s-index blank c.loop-s-test.true
    c.fragment_before.ensures (c.push.ensures _ c.loop-s.invariant)

pub loop-s-2-init : goal.loop-s-2-init
unfolding parts
loop-s-2-init c =
    let a = c.args in
    rw (append-nil (parts (before a.first) a.segments.now))
    (all_pushed c.loop-s.r (before a.first) a.segments.now [] c.loop-s.s-index c.loop-s-test.false c.loop-s.invariant)

pub loop-s-2-preserved : goal.loop-s-2-preserved
loop-s-2-preserved c =
    let a = c.args in
    part_pushed c.push-in-loop-s-2.new.self (inside Recall a.first a.last) a.segments.now _ _ c.loop-s-2.s-index blank
    c.loop-s-2-test.true c.fragment_inside.ensures (c.push-in-loop-s-2.ensures _ c.loop-s-2.invariant)

pub loop-s-3-init : goal.loop-s-3-init
unfolding parts middle push_all
loop-s-3-init c =
    let a = c.args in
    let l = a.segments.now in
    let p = parts (before a.first) l in
    let b = all_pushed c.loop-s.r (before a.first) l [] c.loop-s.s-index c.loop-s-test.false c.loop-s.invariant in
    rw (append-nil (p ++ middle a.c a.first a.last l))
    (elim c.match-c.branch [
      | in-Grant w ↦ rw (w.in-Grant.is, w.r-is, push_all_append [] p (record { first = a.first; last = a.last; right = _ } ∷ [])) (w.push-in-Grant.ensures _ b)
      | in-Clear w ↦ rw (w.in-Clear.is, w.r-is, clear_leaves_nothing a.first a.last l, append-nil p) b
      | in-Recall+else-loop-s-2-test w ↦ rw (w.in-Recall.is, w.r-is) (all_pushed w.loop-s-2.r (inside Recall a.first a.last) l p w.loop-s-2.s-index w.loop-s-2-test.false w.loop-s-2.invariant)
    ])

pub loop-s-3-preserved : goal.loop-s-3-preserved
loop-s-3-preserved c =
    let a = c.args in
    part_pushed c.push-in-loop-s-3.new.self (after a.last) a.segments.now _ _ c.loop-s-3.s-index blank
    c.loop-s-3-test.true c.fragment_after.ensures (c.push-in-loop-s-3.ensures _ c.loop-s-3.invariant)

pub returns : goal.returns
unfolding edited
returns c =
    let a = c.args in
    let l = a.segments.now in
    rw (← (append_assoc (parts (before a.first) l) (middle a.c a.first a.last l) (parts (after a.last) l)))
    (all_pushed c.loop-s-3.r (after a.last) l _ c.loop-s-3.s-index c.loop-s-3-test.false c.loop-s-3.invariant)
