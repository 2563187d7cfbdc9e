-- Where no two slots hold the same body, a canonical list is the shortest of the lists that show the same rights.
use Prim.Native.Nat.{ℕ, suc, ◌≤◌, ◌<◌}
use mathlib.Core.Path.{◌≡◌, refl, sym, ap, ◌∙◌}
use mathlib.Core.Logic.{◌⊎◌, inl, inr, ⊎_elim}
use mathlib.Core.Bool.{true}
use mathlib.Core.List.{List, [], ◌∷◌}
use native.Mathlib.Omega.{arith}
use native.Mathlib.Decide.{dec_le}
use lib.ListN.{length, get_or}
use Rattle.base.specs.Ranges.{last_byte}
use Rattle.segments.specs.declared.Right.{Right}
use Rattle.segments.specs.declared.Right.TheVariants.{None, Granted, Recalled}
use Rattle.segments.specs.declared.Segment.{Segment}
use Rattle.segments.specs.Segments.{right_at}
use Rattle.segments.proofs.Canon.{Below, Canon, Ord, at_in, at_none, at_past, at_under, below_past}
use Rattle.segments.proofs.Fewest.{fewest}
use Rattle.store.specs.Store.{Body, Slot, empty, holds}
use Rattle.model.specs.Model.{ByteRight, none, granted, recalled, with_slot}
use Rattle.model.specs.SlotsShown.{all_distinct}
use Rattle.model.specs.Claim.{Ordered, Showing, under_slot, with_body}
use Rattle.model.proofs.SlotRights.{HoldsBody, Under, slot_forth}

-- ---- rights that have a body

-- the slot of a right that has a body holds it; c: granted or recalled
slot_holds : (c : Body → ByteRight) (ss : List Slot) (i : ℕ) → (under_slot c (get_or ss i empty) ≡ none → ⊥) → HoldsBody ss i
slot_holds c ss i n = go (get_or ss i empty) refl n
  where
    go : (s : Slot) → get_or ss i empty ≡ s → (under_slot c s ≡ none → ⊥) → HoldsBody ss i
    go empty e m = absurd (m refl)
    go (holds b) e m = (b, e)

body_under : (ss : List Slot) (r : Right) → (with_body ss r ≡ none → ⊥) → Under ss r
body_under ss None n = tt
body_under ss (Granted i) n = slot_holds granted ss i.0 n
body_under ss (Recalled i) n = slot_holds recalled ss i.0 n

-- two rights under bodies are the same where their bodies are: each body leads back to its slot
body_only : (ss : List Slot) (a b : Right) → all_distinct ss ≡ true → (with_body ss a ≡ none → ⊥) → with_body ss a ≡ with_body ss b → a ≡ b
body_only ss a b apart n e =
    sym (slot_forth ss a apart (body_under ss a n))
    ∙ (ap (with_slot ss) e ∙ slot_forth ss b apart (body_under ss b (λ z. n (e ∙ z))))

-- ---- ordered lists

ordered_ord : (ss : List Slot) (lo : ℕ) (l : List Segment) → Ordered ss lo l → Ord lo l
unfolding Ordered Ord
ordered_ord ss lo [] o = tt
ordered_ord ss lo (s ∷ l) o = (o.0, o.1, λ e. o.3 (ap (with_body ss) e), ordered_ord ss (suc s.last) l o.4)

ordered_below : (ss : List Slot) (lo : ℕ) (l : List Segment) → Ordered ss lo l → Below (suc last_byte) l
unfolding Ordered Below
ordered_below ss lo [] o = tt
ordered_below ss lo (s ∷ l) o = (omega arith, ordered_below ss (suc s.last) l o.4)

-- what an ordered list shows has a body
ordered_body : (ss : List Slot) (lo : ℕ) (l : List Segment) → Ordered ss lo l → (x : ℕ)
    → (right_at l x ≡ None) ⊎ (with_body ss (right_at l x) ≡ none → ⊥)
unfolding Ordered
ordered_body ss lo [] o x = inl (at_none x)
ordered_body ss lo (s ∷ l) o x = go (dec_le s.first x) (dec_le x s.last) (ordered_body ss (suc s.last) l o.4 x)
  where
    go : Dec (s.first ≤ x) → Dec (x ≤ s.last) → (right_at l x ≡ None) ⊎ (with_body ss (right_at l x) ≡ none → ⊥)
        → (right_at (s ∷ l) x ≡ None) ⊎ (with_body ss (right_at (s ∷ l) x) ≡ none → ⊥)
    go (yes h) (yes k) rest = inr (rw (at_in s l x h k) o.3)
    go (no h) k rest = rw (at_under s l x (omega arith)) rest
    go (yes h) (no k) rest = rw (at_past s l x (omega arith)) rest

-- two lists that show the same rights show the same slots
shown_alike : (ss : List Slot) (right : ℕ → ByteRight) (l k : List Segment) → all_distinct ss ≡ true → Showing ss right l → Showing ss right k
    → (x : ℕ) → right_at l x ≡ right_at k x
shown_alike ss right l k a p q x = go (dec_le x last_byte)
  where
    both_none : with_body ss (right_at l x) ≡ with_body ss (right_at k x) → right_at l x ≡ right_at k x
    both_none e =
        ⊎_elim
        (λ h.
        ⊎_elim (λ g. h ∙ sym g) (λ g. absurd (g (sym e ∙ ap (with_body ss) h))) (ordered_body ss 0 k q.ordered x))
        (λ n. body_only ss (right_at l x) (right_at k x) a n e)
        (ordered_body ss 0 l p.ordered x)

    go : Dec (x ≤ last_byte) → right_at l x ≡ right_at k x
    go (yes h) = both_none (p.shows x h ∙ sym (q.shows x h))
    go (no h) =
        below_past (suc last_byte) l (ordered_below ss 0 l p.ordered) x (omega arith)
        ∙ sym (below_past (suc last_byte) k (ordered_below ss 0 k q.ordered) x (omega arith))

pub fewest_showing : (ss : List Slot) (right : ℕ → ByteRight) (l k : List Segment) → all_distinct ss ≡ true → Canon 0 None l
    → Showing ss right l → Showing ss right k → (k ≡ l → ⊥) → length l < length k
fewest_showing ss right l k a c p q n =
    ⊎_elim (λ e. absurd (n (sym e))) (λ h. h)
    (fewest 0 0 None l k c (ordered_ord ss 0 k q.ordered) (shown_alike ss right l k a p q))
