-- `soundness::bodies::validate_slots` meets its contract. The loop's invariant: the slots passed are sound, so what is left decides, and the asked one was
-- read if it was among them.
use Prim.Native.Nat.{ℕ, ◌+◌}
use Rattle.layout.specs.Answers.{starts_in}
use Rattle.layout.specs.Layouts.{layout_body}
use Rattle.lookup.proofs.NamedLaws.{named_here}
use Rattle.soundness.specs.Sound.{slot_sound}
use Rattle.segments.specs.Segments.{is_named}
use Rattle.soundness.proofs.ValidSlotLaws.{none_started, read_elsewhere, read_here, read_none, read_unnamed, slot_fails, slot_passed, slots_none}
use Rattle.soundness.specs.Validations.{layout_named}
use Rattle.store.specs.Store.{body_in, slot_at}
use mathlib.Core.Bool.{true, false, false≢true}
use mathlib.Core.Path.{◌≡◌, refl, sym, ap, ◌∙◌}
use native.Mathlib.Omega.{arith}
use Rattle.soundness.proofs.bodies.validate_slots.Goals as goal
use Rattle.soundness.proofs.bodies.validate_slots.Goals.{then-named-k+else-not-is_filled+then-i-asked, then-named-k+else-not-is_filled+else-i-asked, else-named-k+else-not-all_zero}

pub loop-i-init : goal.loop-i-init
loop-i-init c =
    λ t e.
    let n = read_none t c.args.store.now c.args.asked.0 in
    (refl, c.unsound-none.ensures.answer ∙ n, c.unsound-none.ensures.starts ∙ none_started _ n)

pub returns-then-not-is_filled : goal.returns-then-not-is_filled
returns-then-not-is_filled c =
    let l = c.loop-i in
    let f = c.unsound-none.ensures.sound in
    let q = c.is_filled.ensures c.read_layout-l.result.starts
    (c.read_layout-l.ensures.0 ∙ ap layout_body c.slot_body.ensures) in
    λ t e. let s : slot_sound (is_named t l.i) (slot_at c.args.store.now l.i) ≡ false = rw (
      named_here t _ l.i e (omega arith) ∙ c.if-named-k.true,
      ← c.slot_bytes-slot.ensures,
    ) (sym q ∙ c.if-not-is_filled.true) in record {
      sound = f ∙ sym ((l.invariant t e).0 ∙ slot_fails t c.args.store.now 8 l.i (omega arith) s);
      reading = λ k. absurd (false≢true (sym f ∙ k));
    }

pub returns-then-not-all_zero : goal.returns-then-not-all_zero
unfolding slot_sound
returns-then-not-all_zero c =
    let l = c.loop-i in
    let f = c.unsound-none.ensures.sound in
    λ t e. let s : slot_sound (is_named t l.i) (slot_at c.args.store.now l.i) ≡ false = rw (
      named_here t _ l.i e (omega arith) ∙ c.if-named-k.false,
      ← c.slot_bytes-slot.ensures,
    ) (sym c.all_zero.ensures ∙ c.if-not-all_zero.true) in record {
      sound = f ∙ sym ((l.invariant t e).0 ∙ slot_fails t c.args.store.now 8 l.i (omega arith) s);
      reading = λ k. absurd (false≢true (sym f ∙ k));
    }

pub loop-i-preserved : goal.loop-i-preserved
unfolding slot_sound
loop-i-preserved c =
    let l = c.loop-i in
    let store = c.args.store.now in
    let asked = c.args.asked in
    λ t e. let n = named_here t _ l.i e (omega arith) in elim c.if-named-k.branch [
      | then-named-k+else-not-is_filled+then-i-asked w ↦
          (let q = w.is_filled.ensures w.read_layout-l.result.starts (w.read_layout-l.ensures.0 ∙ ap layout_body w.slot_body.ensures) in let
          s : slot_sound (is_named t l.i) (slot_at store l.i) ≡ true = rw (
            n ∙ w.if-named-k.true,
            ← c.slot_bytes-slot.ensures,
          ) (sym q ∙ w.if-not-is_filled.false) in let r = ap layout_body
          (w.slot_body.ensures ∙ ap body_in c.slot_bytes-slot.ensures)
          ∙ (read_here t store l.i (n ∙ w.if-named-k.true)
          ∙ ap (λ (v : ℕ). layout_named t store v (l.i + 1)) w.if-i-asked.true) in (
            (l.invariant t e).0 ∙ slot_passed t store 8 l.i (omega arith) s,
            rw w.read-is (w.read_layout-l.ensures.0 ∙ r),
            rw w.read-is (w.read_layout-l.ensures.1 ∙ ap starts_in r),
          ))
      | then-named-k+else-not-is_filled+else-i-asked w ↦ (let q = w.is_filled.ensures w.read_layout-l.result.starts (w.read_layout-l.ensures.0 ∙ ap layout_body w.slot_body.ensures)
          in let s : slot_sound (is_named t l.i) (slot_at store l.i) ≡ true = rw (
            n ∙ w.if-named-k.true,
            ← c.slot_bytes-slot.ensures,
          ) (sym q ∙ w.if-not-is_filled.false) in let r = read_elsewhere t store asked.0 l.i w.if-i-asked.false in (
            (l.invariant t e).0 ∙ slot_passed t store 8 l.i (omega arith) s,
            rw w.read-is ((l.invariant t e).1 ∙ r),
            rw w.read-is ((l.invariant t e).2 ∙ ap starts_in r),
          ))
      | else-named-k+else-not-all_zero w ↦ (let s : slot_sound (is_named t l.i) (slot_at store l.i) ≡ true = rw (
        n ∙ w.if-named-k.false,
        ← c.slot_bytes-slot.ensures,
      ) (sym w.all_zero.ensures ∙ w.if-not-all_zero.false) in let r = read_unnamed t store asked.0 l.i
          (n ∙ w.if-named-k.false) in (
            (l.invariant t e).0 ∙ slot_passed t store 8 l.i (omega arith) s,
            rw w.read-is ((l.invariant t e).1 ∙ r),
            rw w.read-is ((l.invariant t e).2 ∙ ap starts_in r),
          ))
    ]

pub returns : goal.returns
returns c =
    let l = c.loop-i in
    let z : l.i ≡ 8 = omega arith in
    let a = c.args in
    λ t e.
    let r = ap (layout_named t a.store.now a.asked.0) z in
    record {
      sound = sym ((l.invariant t e).0 ∙ slots_none t a.store.now 8 l.i (omega arith));
      reading = λ k. record { answer = (l.invariant t e).1 ∙ r; starts = (l.invariant t e).2 ∙ ap starts_in r; named = e };
    }
