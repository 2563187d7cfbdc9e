-- A store whose unnamed slots are cleared one after the other is that of the slots with those emptied.
use Prim.Native.Nat.{ℕ, zero, suc, ◌+◌}
use mathlib.Core.Path.{◌≡◌, refl, sym, ap, subst, ◌∙◌}
use mathlib.Core.Bool.{Bool, true, false, not, ◌&&◌}
use mathlib.Core.List.{List, [], ◌∷◌, ◌++◌}
use native.Mathlib.Numerals.{add-one}
use native.Mathlib.Omega.{arith}
use lib.ListN.{length, length-append}
use lib.Seq.{append_snoc, set-append_seam}
use Rattle.base.specs.Answer.{pick}
use Rattle.store.specs.Store.{Slot, empty, slot_set, store_of}
use Rattle.store.proofs.SlotLaws.{length_empty}
use Rattle.store.proofs.StoreLaws.{AllWhole, set_slot}
use Rattle.slots.specs.Slots.{cleared_from}

-- the slots from slot i on, without those that were named before and are not after
unfoldable pub cleared_slots : (ℕ → Bool) → (ℕ → Bool) → ℕ → List Slot → List Slot
cleared_slots was is i [] = []
cleared_slots was is i (p ∷ ps) = pick (was i && not (is i)) empty p ∷ cleared_slots was is (suc i) ps

one_more : (pre ps : List Slot) (q : Slot) → pre ++ (q ∷ ps) ≡ (pre ++ (q ∷ [])) ++ ps
one_more pre ps q = sym (append_snoc pre q ps)

long : (pre : List Slot) (q : Slot) → length (pre ++ (q ∷ [])) ≡ suc (length pre)
long pre q = length-append pre (q ∷ []) ∙ add-one (length pre)

emptied : (pre ps : List Slot) (p : Slot) → AllWhole (pre ++ (p ∷ ps)) → AllWhole (pre ++ (empty ∷ ps))
emptied [] ps p w zero = length_empty
emptied [] ps p w (suc i) = w (suc i)
emptied (s ∷ pre) ps p w zero = w zero
emptied (s ∷ pre) ps p w (suc i) = emptied pre ps p (λ j. w (suc j)) i

module _ (was is : ℕ → Bool) where
  after_one : (c : Bool) (pre ps : List Slot) (p : Slot) → AllWhole (pre ++ (p ∷ ps))
      → pick c (slot_set (store_of (pre ++ (p ∷ ps))) (length pre) empty) (store_of (pre ++ (p ∷ ps))) ≡ store_of (pre ++ (pick c empty p ∷ ps))
  unfolding pick
  after_one true pre ps p w =
      let l : length (pre ++ (p ∷ ps)) ≡ length pre + length (p ∷ ps) = length-append pre (p ∷ ps) in
      set_slot (pre ++ (p ∷ ps)) (length pre) empty w length_empty (omega arith) ∙ ap store_of (set-append_seam pre p ps empty)
  after_one false pre ps p w = refl

  still_whole : (c : Bool) (pre ps : List Slot) (p : Slot) → AllWhole (pre ++ (p ∷ ps)) → AllWhole (pre ++ (pick c empty p ∷ ps))
  unfolding pick
  still_whole true pre ps p w = emptied pre ps p w
  still_whole false pre ps p w = w

  pub cleared_store : (pre ps : List Slot) → AllWhole (pre ++ ps)
      → cleared_from was is (length ps) (length pre) (store_of (pre ++ ps)) ≡ store_of (pre ++ cleared_slots was is (length pre) ps)
  unfolding cleared_from cleared_slots
  cleared_store pre [] w = refl
  cleared_store pre (p ∷ ps) w =
      let c : Bool = was (length pre) && not (is (length pre)) in
      let q : Slot = pick c empty p in
      let rest : List Slot = cleared_slots was is (suc (length pre)) ps in
      ap (cleared_from was is (length ps) (suc (length pre))) (after_one c pre ps p w ∙ ap store_of (one_more pre ps q))
      ∙ (ap (λ (n : ℕ). cleared_from was is (length ps) n (store_of ((pre ++ (q ∷ [])) ++ ps))) (sym (long pre q))
      ∙ (cleared_store (pre ++ (q ∷ [])) ps (subst AllWhole (one_more pre ps q) (still_whole c pre ps p w))
      ∙ ap store_of (ap (λ (n : ℕ). (pre ++ (q ∷ [])) ++ cleared_slots was is n ps) (long pre q) ∙ sym (one_more pre rest q))))
