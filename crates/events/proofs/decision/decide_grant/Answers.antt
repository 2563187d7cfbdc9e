-- `events::decision::decide_grant` meets its contract: 21 is asked before 22, and 22 before 24.
use Rattle.events.proofs.EventLaws.{held_elsewhere, is_recalled_lem, may_be_granted, slots_named}
use Rattle.slots.specs.Slots.{slot_choice}
use mathlib.Core.Path.{sym, ap, ◌∙◌}
use Rattle.events.proofs.decision.decide_grant.Goals as goal

pub returns-then-meets : goal.returns-then-meets
returns-then-meets c =
    let found = c.choose_slot-choice.ensures ∙ ap (slot_choice _) (slots_named _ _ _ c.requires) in
    sym (held_elsewhere _ _ _ _ _ _ _ found c.other_body-other.ensures (sym c.meets.ensures ∙ c.if-meets.true))

pub returns-then-meets-2 : goal.returns-then-meets-2
returns-then-meets-2 c =
    let found = c.choose_slot-choice.ensures
    ∙ ap (slot_choice _) (slots_named _ _ _ c.requires) in
    let e = sym c.meets.ensures ∙ c.if-meets.false in
    sym (is_recalled_lem _ _ _ _ _ _ _ found c.other_body-other.ensures e
    (sym c.meets-2.ensures ∙ c.if-meets-2.true))

pub returns : goal.returns
returns c =
    let found = c.choose_slot-choice.ensures
    ∙ ap (slot_choice _) (slots_named _ _ _ c.requires) in
    let e = sym c.meets.ensures ∙ c.if-meets.false in
    c.grant_under.ensures
    ∙ sym (may_be_granted _ _ _ _ _ _ _ found c.other_body-other.ensures e
    (sym c.meets-2.ensures ∙ c.if-meets-2.false))
