-- `soundness::validate_and_read` meets its contract, test by test.
use Rattle.base.proofs.AnswerLaws.{pick_false, pick_true}
use Rattle.layout.specs.Answers.{starts_in}
use Rattle.lookup.specs.Lookup.{named_slots}
use Rattle.soundness.specs.Sound.{sound}
use Rattle.soundness.proofs.ValidSlotLaws.{if_sound, if_unsound, none_started}
use Rattle.soundness.specs.Validations.{named_if_sound}
use borrow.Author.Tests.{eq-eqb, ne_eqb, not-false, not-true}
use mathlib.Core.Bool.{true, false, and-false}
use mathlib.Core.Path.{◌≡◌, sym, ap, ◌∙◌}
use Rattle.soundness.proofs.validate_and_read.Goals as goal

pub returns-then-store-ne-STORE_SIZE : goal.returns-then-store-ne-STORE_SIZE
unfolding sound named_if_sound
returns-then-store-ne-STORE_SIZE c =
    let a = c.args in
    let s : sound a.t a.store.now ≡ false = rw (ne_eqb _ _ c.if-store-ne-STORE_SIZE.true, and-false) in
    let j = sym (if_unsound a.t a.store.now a.slot.0 s) in (
      c.unsound.ensures.sound ∙ sym s,
      c.unsound.ensures.answer ∙ j,
      c.unsound.ensures.starts ∙ none_started _ j,
      c.unsound.ensures.named ∙ sym (pick_false _ (named_slots a.t) _ s),
    )

pub returns-then-not-lists_sound : goal.returns-then-not-lists_sound
unfolding sound named_if_sound
returns-then-not-lists_sound c =
    let a = c.args in
    let s : sound a.t a.store.now ≡ false = rw (sym c.lists_sound.ensures ∙ c.if-not-lists_sound.true) in
    let j = sym (if_unsound a.t a.store.now a.slot.0 s) in (
      c.unsound-then-not-lists_sound.ensures.sound ∙ sym s,
      c.unsound-then-not-lists_sound.ensures.answer ∙ j,
      c.unsound-then-not-lists_sound.ensures.starts ∙ none_started _ j,
      c.unsound-then-not-lists_sound.ensures.named ∙ sym (pick_false _ (named_slots a.t) _ s),
    )

pub returns-then-not-j : goal.returns-then-not-j
unfolding sound named_if_sound
returns-then-not-j c =
    let a = c.args in
    let s : sound a.t a.store.now ≡ false = rw (
      sym c.lists_sound.ensures ∙ c.if-not-lists_sound.false,
      sym (c.validate_slots-j.ensures a.t
          c.named_slots-named.ensures).sound ∙ not-true _ c.if-not-j.true,
    ) in
    let j = sym (if_unsound a.t a.store.now a.slot.0 s) in (
      c.unsound-then-not-j.ensures.sound ∙ sym s,
      c.unsound-then-not-j.ensures.answer ∙ j,
      c.unsound-then-not-j.ensures.starts ∙ none_started _ j,
      c.unsound-then-not-j.ensures.named ∙ sym (pick_false _ (named_slots a.t) _ s),
    )

pub returns-then-not-all_distinct : goal.returns-then-not-all_distinct
unfolding sound named_if_sound
returns-then-not-all_distinct c =
    let a = c.args in
    let s : sound a.t a.store.now ≡ false = rw (
      sym c.lists_sound.ensures ∙ c.if-not-lists_sound.false,
      sym (c.validate_slots-j.ensures a.t
          c.named_slots-named.ensures).sound ∙ not-false _ c.if-not-j.false,
      sym (c.all_distinct.ensures a.t c.named_slots-named.ensures)
          ∙ c.if-not-all_distinct.true,
    ) in
    let j = sym (if_unsound a.t a.store.now a.slot.0 s) in (
      c.unsound-then-not-all_distinct.ensures.sound ∙ sym s,
      c.unsound-then-not-all_distinct.ensures.answer ∙ j,
      c.unsound-then-not-all_distinct.ensures.starts ∙ none_started _ j,
      c.unsound-then-not-all_distinct.ensures.named ∙ sym (pick_false _ (named_slots a.t) _ s),
    )

pub returns : goal.returns
unfolding sound named_if_sound
returns c =
    let a = c.args in
    let k = not-false _ c.if-not-j.false in
    let named = c.named_slots-named.ensures in
    let v = c.validate_slots-j.ensures a.t named in
    let s : sound a.t a.store.now ≡ true = rw (
      sym c.lists_sound.ensures ∙ c.if-not-lists_sound.false,
      sym v.sound ∙ k,
      sym (c.all_distinct.ensures a.t named) ∙ c.if-not-all_distinct.false,
      eq-eqb _ _ c.if-store-ne-STORE_SIZE.false,
    ) in
    let j = sym (if_sound a.t a.store.now a.slot.0 s) in
    let r = v.reading k in
    (k ∙ sym s, r.answer ∙ j, r.starts ∙ ap starts_in j, r.named ∙ sym (pick_true _ (named_slots a.t) _ s))
