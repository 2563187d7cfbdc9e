-- The rights that a sound table and store show: the slot of each holds its body, and the body leads back to that slot.
use Prim.Native.Nat.{ℕ, ◌<◌}
use mathlib.Core.Path.{◌≡◌, refl, ◌∙◌}
use mathlib.Core.Bool.{Bool, true, false, or-true}
use mathlib.Core.List.{List, [], ◌∷◌}
use borrow.Author.Tests.{ltb-true, eq-eqb}
use Rattle.base.specs.Answer.{pick}
use Rattle.segments.specs.declared.Right.{Right}
use Rattle.segments.specs.declared.Right.TheVariants.{None, Granted, Recalled}
use Rattle.segments.specs.declared.Segment.{Segment}
use Rattle.segments.specs.declared.Table.{Table}
use Rattle.segments.specs.Segments.{Mode, any_names, is_of_slot, list_in, right_at, within}
use Rattle.store.specs.Store.{Slot, body_in, slot_at}
use Rattle.model.specs.SlotsShown.{slots_in}
use Rattle.soundness.specs.Sound.{has_slot, is_in_order}
use Rattle.model.proofs.SlotRights.{HoldsBody, Under}
use Rattle.soundness.proofs.SoundParts.{Sounds, in_order, listed, named_in, slot_is}

-- every slot that the list names holds a body
abbrev Named : List Slot → List Segment → Type 0
Named ss l = (i : ℕ) → i < 8 → any_names i l ≡ true → HoldsBody ss i

under_right : (ss : List Slot) (r : Right) → has_slot r ≡ true → ((i : ℕ) → i < 8 → is_of_slot i r ≡ true → HoldsBody ss i) → Under ss r
under_right ss None h f = tt
under_right ss (Granted s) h f = f s.0 (ltb-true s.0 8 h) (eq-eqb s.0 s.0 refl)
under_right ss (Recalled s) h f = f s.0 (ltb-true s.0 8 h) (eq-eqb s.0 s.0 refl)

shown_under : (ss : List Slot) (l : List Segment) (x : ℕ) → is_in_order l ≡ true → Named ss l → Under ss (right_at l x)
unfolding right_at any_names pick
shown_under ss [] x h f = tt
shown_under ss (s ∷ l) x h f =
    let o = in_order s l h in
    go (within s.first s.last x)
    (under_right ss s.right o.fit.under (λ i k n. f i k (rw n)))
    (shown_under ss l x o.rest (λ i k n. f i k (rw n (or-true (is_of_slot i s.right)))))
  where
    go : (b : Bool) → Under ss s.right → Under ss (right_at l x) → Under ss (pick b s.right (right_at l x))
    go true here rest = here
    go false here rest = rest

module _ (t : Table) (store : List ℕ) (s : Sounds t store) where
  named_holds : (m : Mode) → Named (slots_in t store) (list_in t m)
  unfolding pick
  named_holds m i h n = (body_in (slot_at store i), slot_is t store s i h ∙ rw (named_in t store s m i n))

  pub under_at : (m : Mode) (x : ℕ) → Under (slots_in t store) (right_at (list_in t m) x)
  under_at m x = shown_under (slots_in t store) (list_in t m) x (listed t store s m).rising (named_holds m)
