-- `lookup::named::named_slots` meets its contract: the lists of both iomodes are walked.
use Rattle.lookup.proofs.NamedLaws.{all_named, read_marked, rw_marked}
use Rattle.segments.specs.Segments.{RW, any_names, list_in}
use mathlib.Core.Bool.{Bool, ◌||◌}
use mathlib.Core.Path.{ap, ◌∙◌}
use Rattle.lookup.proofs.named.named_slots.Goals as goal

pub returns : goal.returns
returns c =
    let t = c.args.t in
    let read = c.mark_all.ensures in
    all_named t _ c.mark_all-2.ensures.size (λ i h. c.mark_all-2.ensures.marks i h
    ∙ (ap (λ (x : Bool). any_names i (list_in t RW) || x) (read.marks i h ∙ read_marked t i) ∙ rw_marked t i))
