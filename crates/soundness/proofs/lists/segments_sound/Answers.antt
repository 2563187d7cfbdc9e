-- `soundness::lists::segments_sound` meets its contract. The first loop's invariant: the segments passed are in order, so what is left decides. The
-- second one's: the flag says whether the entries passed are blank.
use Rattle.std.proofs.Common.{◌+◌, ◌-◌, length, drop, Bool, ◌&&◌, sym, ap, ◌∙◌, arith, length-drop}
use borrow.Author.Tests.{le-leb, lt-leb}
use lib.Seq.{take_all}
use mathlib.Core.Bool.{and-true}
use Rattle.lookup.proofs.LookupLaws.{next_segment, no_segment}
use Rattle.segments.specs.Segments.{blank}
use Rattle.soundness.specs.Sound.{all_blank, apart_from_next, is_in_order, segments_sound}
use Rattle.soundness.proofs.SegmentLaws.{blank_none, blank_passed}
use Rattle.soundness.proofs.lists.segments_sound.Goals as goal
use Rattle.soundness.proofs.lists.segments_sound.Goals.{then-next-all+else-not-are_apart, else-next-all}

pub returns-then-g-gt-MOST_SEGMENTS : goal.returns-then-g-gt-MOST_SEGMENTS
unfolding segments_sound
returns-then-g-gt-MOST_SEGMENTS c = rw (lt-leb _ _ c.if-g-gt-MOST_SEGMENTS.true)

pub returns-then-not-is_fit : goal.returns-then-not-is_fit
unfolding segments_sound is_in_order
returns-then-not-is_fit c =
    let l = c.loop-k in
    let all = c.used-all.result.now in
    rw (
      le-leb _ _ c.if-g-gt-MOST_SEGMENTS.false,
      sym c.used-all.ensures,
      l.invariant,
      next_segment all l.k blank (omega arith),
      sym c.is_fit.ensures ∙ c.if-not-is_fit.true,
    )

pub returns-then-not-are_apart : goal.returns-then-not-are_apart
unfolding segments_sound is_in_order apart_from_next
returns-then-not-are_apart c =
    let l = c.loop-k in
    let all = c.used-all.result.now in
    rw (
      le-leb _ _ c.if-g-gt-MOST_SEGMENTS.false,
      sym c.used-all.ensures,
      l.invariant,
      next_segment all l.k blank (omega arith),
      sym c.is_fit.ensures ∙ c.if-not-is_fit.false,
      next_segment all (l.k + 1) blank (omega arith),
      sym c.are_apart.ensures ∙ c.if-not-are_apart.true,
    )

pub loop-k-preserved : goal.loop-k-preserved
unfolding is_in_order apart_from_next
loop-k-preserved c =
    let l = c.loop-k in
    let all = c.used-all.result.now in
    elim c.if-next-all.branch [
      | then-next-all+else-not-are_apart w ↦ rw (
        l.invariant,
        next_segment all l.k blank (omega arith),
        sym c.is_fit.ensures ∙ c.if-not-is_fit.false,
        next_segment all (l.k + 1) blank (omega arith),
        sym w.are_apart.ensures ∙ w.if-not-are_apart.false,
      )
      | else-next-all w ↦ rw (
        l.invariant,
        next_segment all l.k blank (omega arith),
        sym c.is_fit.ensures ∙ c.if-not-is_fit.false,
        no_segment all (l.k + 1) (omega arith),
      )
    ]

pub loop-s-preserved : goal.loop-s-preserved
loop-s-preserved c =
    let m = c.loop-s in
    rw c.is_blank-blank.ensures (m.invariant ∙ blank_passed _ m.s-index blank m.blank (omega arith))

pub returns : goal.returns
unfolding segments_sound is_in_order
returns c =
    let l = c.loop-k in
    let m = c.loop-s in
    let g = c.args.g in
    let z = m.invariant ∙ ap (λ (b : Bool). m.blank && b) (blank_none _ m.s-index (omega arith)) ∙ and-true m.blank in
    rw (le-leb _ _ c.if-g-gt-MOST_SEGMENTS.false, sym c.used-all.ensures, l.invariant, no_segment c.used-all.result.now l.k (omega arith))
    (sym (ap all_blank (sym (take_all (length g.items - g.count) (drop g.count g.items) (omega (arith, length-drop g.count g.items)))) ∙ z))
