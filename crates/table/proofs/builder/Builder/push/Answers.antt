-- `table::builder::Builder::push` meets its contract: no part, a full builder, a part joined, one put behind, or no room.
use mathlib.Core.Path.{sym, ◌∙◌}
use native.Mathlib.Omega.{arith}
use Rattle.segments.specs.Segments.{blank}
use Rattle.table.proofs.BuilderLaws.{appends, fills, full_stays, joins, starts}
use Rattle.table.specs.Edits.{push_all}
use Rattle.table.proofs.builder.Builder.push.Goals as goal
use Rattle.table.proofs.builder.Builder.push.Goals.{then-self-gt0+else-touches, else-self-gt0}

pub returns-in_default : goal.returns-in_default
unfolding push_all
returns-in_default c = rw c.in_default.is (λ l h. h)

pub returns-then-self : goal.returns-then-self
returns-then-self c =
    let d = c.args.self.now in
    rw c.in-Some.is (λ l h. full_stays d.items d.count c.in-Some.s blank l d.full c.if-self.true h)

pub returns-then-touches : goal.returns-then-touches
returns-then-touches c =
    let d = c.args.self.now in
    let t = sym c.touches.ensures ∙ c.if-touches.true in
    rw c.in-Some.is (λ l h. joins d.items d.count c.in-Some.s blank l d.full c.if-self.false c.if-self-gt0.true t h)

pub returns-then-self-lt-MOST_SEGMENTS : goal.returns-then-self-lt-MOST_SEGMENTS
returns-then-self-lt-MOST_SEGMENTS c =
    let d = c.args.self.now in
    let s = c.in-Some.s in
    let f = c.if-self.false in
    let m = c.if-self-lt-MOST_SEGMENTS.true in
    rw c.in-Some.is
    (λ l h. elim c.if-self-gt0.branch [
      | then-self-gt0+else-touches w ↦ appends d.items d.count s blank l d.full f w.if-self-gt0.true (sym w.touches.ensures ∙ w.if-touches.false) m h
      | else-self-gt0 w ↦ starts d.items d.count s blank l d.full f w.if-self-gt0.false h
    ])

pub returns-else-self-lt-MOST_SEGMENTS : goal.returns-else-self-lt-MOST_SEGMENTS
returns-else-self-lt-MOST_SEGMENTS c =
    let d = c.args.self.now in
    let s = c.in-Some.s in
    let f = c.if-self.false in
    let m = c.if-self-lt-MOST_SEGMENTS.false in
    rw c.in-Some.is
    (λ l h. elim c.if-self-gt0.branch [
      | then-self-gt0+else-touches w ↦ fills d.items d.count s blank l d.full f w.if-self-gt0.true (sym w.touches.ensures ∙ w.if-touches.false) m h
      | else-self-gt0 w ↦ let y = w.if-self-gt0.false in absurd (omega arith)
    ])
