-- The slots after an event: those that the table no longer names are cleared, and an event that takes no name away leaves all as they are.
use Prim.Native.Nat.{ℕ, suc, ◌+◌, ◌≤◌, ◌<◌}
use mathlib.Core.Path.{◌≡◌, refl, sym, ap, ◌∙◌}
use mathlib.Core.Logic.{◌⊎◌, ⊎_elim}
use mathlib.Core.Bool.{Bool, true, false, not, ◌&&◌, ◌||◌, false≢true, or-true}
use mathlib.Core.List.{List, [], ◌∷◌, map}
use native.Mathlib.Omega.{arith}
use borrow.Author.Tests.{le-leb}
use lib.ListN.{length, get_or, get_or-map}
use Rattle.octets.specs.Numbers.{same_bytes}
use Rattle.octets.proofs.SameLaws.{same_refl, same_true}
use Rattle.base.specs.Answer.{pick}
use Rattle.base.specs.declared.iomode.Iomode.{Iomode}
use Rattle.base.specs.declared.iomode.Iomode.TheVariants.{Read, ReadWrite, Any}
use Rattle.segments.specs.Segments.{Mode, READ, RW, acts_on, any_below, is_named}
use Rattle.segments.proofs.ScanLaws.{any_more}
use Rattle.store.specs.Store.{Body, Slot, empty, holds}
use Rattle.model.specs.Model.{ByteRight, none, granted, recalled, Model, Command, Action, grants, returns, recalls, revokes, act, after_at, any_byte, covers, if_named, is_under, meets, placed, right_after, stops21, table_of}
use Rattle.model.proofs.ModelSlotLaws.{placed_held}
use Rattle.model.specs.Invariants.{Invariant}
use Rattle.model.proofs.Inv.{any_byte_lem}
use Rattle.model.proofs.Decode.{is_holding, named_is}
use Rattle.slots.proofs.ClearLaws.{cleared_slots}
use Rattle.slots.proofs.SearchLaws.{cleared_one, kept_named}

-- ---- a granted body is named

acts : (i : Iomode) → (m : Mode) × (acts_on i m ≡ true)
acts Read = (READ, refl)
acts ReadWrite = (RW, refl)
acts Any = (READ, refl)

granted_named : (N : ℕ) (M : Model) (o : Command) (b : Body) → o.first ≤ o.last → o.last ≤ N → o.action ≡ grants b
    → any_byte N (λ m x. is_under b ((act N o M).right m x)) ≡ true
unfolding act after_at covers pick
granted_named N M o b rising ends e =
    let a = acts o.iomode in
    any_byte_lem N (λ m x. is_under b ((act N o M).right m x)) a.0 o.first (omega arith)
    (rw (a.1, le-leb o.first o.first (omega arith), le-leb o.first o.last rising, e) (same_refl b))

-- ---- one slot, then all

map_cleared : (was is : ℕ → Bool) (f : Slot → Slot) (i : ℕ) (ps : List Slot)
    → ((j : ℕ) → j < length ps → pick (was (i + j) && not (is (i + j))) empty (get_or ps j empty) ≡ f (get_or ps j empty))
    → cleared_slots was is i ps ≡ map f ps
unfolding cleared_slots
map_cleared was is f i [] h = refl
map_cleared was is f i (p ∷ ps) h =
    let e : i + 0 ≡ i = omega arith in
    let first : pick (was i && not (is i)) empty p ≡ f p = rw e at (h 0 (omega arith)) in
    let rest : cleared_slots was is (suc i) ps ≡ map f ps =
    map_cleared was is f (suc i) ps (λ j k. let e : i + suc j ≡ suc i + j = omega arith in rw e at (h (suc j) (omega arith))) in
    λ k. first k ∷ rest k

module _ (N : ℕ) (M : Model) (o : Command) (v : Invariant N M) (w : Invariant N (act N o M)) (rising : o.first ≤ o.last) (ends : o.last ≤ N) where
  after_slot : (i : ℕ) → get_or (act N o M).slots i empty ≡ if_named N (act N o M).right (get_or (placed o.action M.slots) i empty)
  unfolding act if_named
  after_slot i = get_or-map (if_named N (act N o M).right) (placed o.action M.slots) i empty

  one_slot : (i : ℕ) (p : Slot) → get_or (placed o.action M.slots) i empty ≡ p
      → pick (is_named (table_of N M) i && not (is_named (table_of N (act N o M)) i)) empty p ≡ if_named N (act N o M).right p
  unfolding if_named pick
  one_slot i empty e = go (is_named (table_of N M) i && not (is_named (table_of N (act N o M)) i))
    where
      go : (c : Bool) → pick c empty empty ≡ empty
      go true = refl
      go false = refl
  one_slot i (holds b) e =
      go (any_byte N (λ m x. is_under b ((act N o M).right m x))) refl
      (named_is N (act N o M) w i ∙ ap is_holding (after_slot i ∙ ap (if_named N (act N o M).right) e))
      (placed_held o.action b M.slots i e)
    where
      go : (t : Bool) → any_byte N (λ m x. is_under b ((act N o M).right m x)) ≡ t
          → is_named (table_of N (act N o M)) i ≡ is_holding (pick t (holds b) empty)
          → (get_or M.slots i empty ≡ holds b) ⊎ (o.action ≡ grants b)
          → pick (is_named (table_of N M) i && not (is_named (table_of N (act N o M)) i)) empty (holds b) ≡ pick t (holds b) empty
      go true g f h = sym (kept_named (is_named (table_of N M) i) (is_named (table_of N (act N o M)) i) empty (holds b) f)
      go false g f h =
          sym (cleared_one (is_named (table_of N M) i) (is_named (table_of N (act N o M)) i) empty (holds b)
          (⊎_elim (λ k. named_is N M v i ∙ ap is_holding k) (λ k. absurd (false≢true (sym g ∙ granted_named N M o b rising ends k))) h) f)

  -- the slots that are cleared are those whose body no right names any more
  pub slots_cleared : cleared_slots (is_named (table_of N M)) (is_named (table_of N (act N o M))) 0 (placed o.action M.slots) ≡ (act N o M).slots
  unfolding act
  slots_cleared =
      map_cleared (is_named (table_of N M)) (is_named (table_of N (act N o M))) (if_named N (act N o M).right) 0 (placed o.action M.slots)
      (λ j k. let e : 0 + j ≡ j = omega arith in rw e (one_slot j (get_or (placed o.action M.slots) j empty) refl))

-- ---- an event that takes no name from a slot

-- a return and a revoke leave bytes without a right
abbrev pub frees : Action → Bool
frees (grants b) = false
frees returns = true
frees recalls = false
frees revokes = true

under_both : (b c e : Body) → not (same_bytes c e) ≡ false → same_bytes b e ≡ true → same_bytes b c ≡ true
under_both b c e n u = go (same_bytes c e) refl n
  where
    go : (t : Bool) → same_bytes c e ≡ t → not t ≡ false → same_bytes b c ≡ true
    go true f m = let p : b ≡ c = same_true b e u ∙ sym (same_true c e f) in rw p (same_refl c)
    go false f m = absurd (false≢true (sym m))

-- a byte under a body stays under it: where a grant passes 21, the body is the grant's
still_under : (d : Action) (b : Body) (r : ByteRight) → frees d ≡ false → stops21 d r ≡ false → is_under b r ≡ true → is_under b (right_after d r) ≡ true
still_under (grants c) b none f n u = absurd (false≢true u)
still_under (grants c) b (granted e) f n u = under_both b c e n u
still_under (grants c) b (recalled e) f n u = under_both b c e n u
still_under returns b r f n u = absurd (false≢true (sym f))
still_under recalls b none f n u = u
still_under recalls b (granted e) f n u = u
still_under recalls b (recalled e) f n u = u
still_under revokes b r f n u = absurd (false≢true (sym f))

all_same : (f : Slot → Slot) (ps : List Slot) → ((j : ℕ) → f (get_or ps j empty) ≡ get_or ps j empty) → map f ps ≡ ps
all_same f [] h = refl
all_same f (p ∷ ps) h = λ k. h 0 k ∷ all_same f ps (λ j. h (suc j)) k

module _ (N : ℕ) (M : Model) (o : Command) (v : Invariant N M) (rising : o.first ≤ o.last) (ends : o.last ≤ N) (kept : frees o.action ≡ false) (not_21 : meets N o (stops21 o.action) M ≡ false) where
  -- no byte that the event covers stops it with 21
  passed_21 : (m : Mode) (x : ℕ) → x ≤ N → covers o m x ≡ true → stops21 o.action (M.right m x) ≡ false
  unfolding meets
  passed_21 m x k e = go (stops21 o.action (M.right m x)) refl
    where
      go : (t : Bool) → stops21 o.action (M.right m x) ≡ t → stops21 o.action (M.right m x) ≡ false
      go true f =
          absurd (false≢true (sym not_21 ∙ any_byte_lem N (λ m x. covers o m x && stops21 o.action (M.right m x)) m x k (rw (e, f))))
      go false f = f

  under_after : (b : Body) (m : Mode) (x : ℕ) → x ≤ N → is_under b (M.right m x) ≡ true → is_under b ((act N o M).right m x) ≡ true
  unfolding act after_at pick
  under_after b m x k u = go (covers o m x) refl
    where
      go : (c : Bool) → covers o m x ≡ c → is_under b (pick c (right_after o.action (M.right m x)) (M.right m x)) ≡ true
      go true e = still_under o.action b (M.right m x) kept (passed_21 m x k e) u
      go false e = u

  named_after : (b : Body) → any_byte N (λ m x. is_under b (M.right m x)) ≡ true → any_byte N (λ m x. is_under b ((act N o M).right m x)) ≡ true
  unfolding any_byte
  named_after b h = go (any_below (λ x. is_under b (M.right READ x)) (suc N)) refl h
    where
      more : (m : Mode) → any_below (λ x. is_under b (M.right m x)) (suc N) ≡ true → any_below (λ x. is_under b ((act N o M).right m x)) (suc N) ≡ true
      more m e = any_more _ _ (suc N) (λ x l u. under_after b m x (omega arith) u) e

      go : (t : Bool) → any_below (λ x. is_under b (M.right READ x)) (suc N) ≡ t → (t || any_below (λ x. is_under b (M.right RW x)) (suc N)) ≡ true
          → (any_below (λ x. is_under b ((act N o M).right READ x)) (suc N) || any_below (λ x. is_under b ((act N o M).right RW x)) (suc N)) ≡ true
      go true e f = rw (more READ e)
      go false e f = rw (more RW f) (or-true (any_below (λ x. is_under b ((act N o M).right READ x)) (suc N)))

  slot_kept : (i : ℕ) (p : Slot) → get_or (placed o.action M.slots) i empty ≡ p → if_named N (act N o M).right p ≡ p
  unfolding if_named pick
  slot_kept i empty e = refl
  slot_kept i (holds b) e =
      rw (⊎_elim (λ h. named_after b (v.named i b h)) (λ h. granted_named N M o b rising ends h) (placed_held o.action b M.slots i e))

  pub slots_kept : (act N o M).slots ≡ placed o.action M.slots
  unfolding act
  slots_kept = all_same (if_named N (act N o M).right) (placed o.action M.slots) (λ j. slot_kept j (get_or (placed o.action M.slots) j empty) refl)
