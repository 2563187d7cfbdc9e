-- `claims::each_stripe_has_its_mirror` joins what `route` says of the mirrors and of the stripe of two pieces.
use Prim.Native.Nat.{ℕ, ◌+◌, ◌≤◌, ◌<◌}
use mathlib.Core.Path.{◌≡◌, sym, ap, ◌∙◌}
use Rattle.base.specs.Answer.{accepted}
use Rattle.layout.specs.Layouts.{Layout, layout_body}
use Rattle.store.specs.Store.{Body, body_in, slot_at}
use Rattle.route.specs.Mirrors.{best_mirror, only}
use Rattle.route.specs.Routes.{layout_in, stripe_in}
use Rattle.route.specs.declared.piece.Piece.{Piece}
use Rattle.route.proofs.MirrorLaws.{one_named}
use Rattle.route.proofs.PieceLaws.{mirrors_by_stripe, piece_in_request, stripe_of_byte}
use Rattle.claims.specs.Statements.{InPiece, OneMirrorNamed}
use Rattle.claims.proofs.each_stripe_has_its_mirror.Goals as goal

-- the mirror of a stripe, as a set
named_at : Body → Layout → ℕ → ℕ
named_at b l k = only (best_mirror b l.starts l.summary.mirrors k)

module _ (b : Body) (l : Layout) (e : layout_body b ≡ accepted l) (p : Piece) (r : OneMirrorNamed b l p) where
  at_slot : layout_in r.store p.slot.0 ≡ accepted l
  unfolding layout_in
  at_slot = ap layout_body r.under ∙ e

  mirror-of : p.mirrors ≡ named_at b l p.stripe.0
  unfolding named_at
  mirror-of =
      mirrors_by_stripe r.write r.table r.store r.offset r.len p r.answered l at_slot
      ∙ (one_named r.write (body_in (slot_at r.store p.slot.0)) l p.stripe.0 r.one
      ∙ ap (λ (s : Body). named_at s l p.stripe.0) r.under)

  stripe-at : (x : ℕ) → InPiece x p → p.stripe.0 ≡ stripe_in l x
  stripe-at x i =
      let from : p.offset ≡ r.offset = (piece_in_request r.write r.table r.store r.offset r.len p r.answered).2 in
      let lo : r.offset ≤ x = rw (← from) i.0 in
      let hi : x < r.offset + p.length = rw (← from) i.1 in
      stripe_of_byte r.write r.table r.store r.offset r.len p r.answered l at_slot x lo hi

pub returns : goal.returns
returns _ =
    λ b l e p q r s. (
      λ k. mirror-of b l e p r ∙ (ap (named_at b l) k ∙ sym (mirror-of b l e q s)),
      λ x i j. stripe-at b l e p r x i ∙ sym (stripe-at b l e q s x j),
    )
