-- `lookup::named::mark_all` meets its contract. The loop's invariant: the segments passed are marked, and those that are left finish the work.
use Rattle.std.proofs.Common.{◌+◌, drop, get_or, Bool, false, ◌||◌, sym, ap, ◌∙◌, arith}
use Rattle.lookup.proofs.NamedLaws.{marked_all, marked_next}
use Rattle.segments.specs.Segments.{any_names, blank}
use Rattle.lookup.proofs.named.mark_all.Goals as goal

pub loop-s-preserved : goal.loop-s-preserved
loop-s-preserved c =
    let l = c.loop-s in
    let items = c.used-all.result.now in (
      c.mark.ensures.size,
      λ i b. l.invariant.1 i b
          ∙ (marked_next i items l.s-index blank (get_or l.named i false) (omega arith)
          ∙ ap (λ (x : Bool). any_names i (drop (l.s-index + 1) items) || x) (sym (c.mark.ensures.marks i b))),
    )

pub returns : goal.returns
returns c =
    let l = c.loop-s in
    let items = c.used-all.result.now in
    record {
      size = l.invariant.0;
      marks = λ i b. rw (← c.used-all.ensures) (sym (l.invariant.1 i b ∙ marked_all i items l.s-index (get_or l.named i false) (omega arith)));
    }
