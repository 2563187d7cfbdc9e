-- Laws of a push onto a list: the last segment is joined or another is after it, in a list and in 32 entries.
use Prim.Native.Nat.{ℕ, ◌+◌, ◌-◌, ◌≤◌, ◌<◌}
use mathlib.Core.Path.{◌≡◌, refl, sym, ap, ◌∙◌}
use mathlib.Core.Bool.{Bool, true, false}
use mathlib.Core.List.{List, [], ◌∷◌, ◌++◌, append-nil, append_assoc}
use native.Mathlib.Omega.{arith}
use native.Mathlib.Numerals.{add-one}
use lib.ListN.{length, take, get_or, set, replicate, length-append, length-set, get_or-append}
use lib.Seq.{take-suc}
use Rattle.base.specs.Answer.{pick}
use Rattle.base.specs.Lists.{padded}
use Rattle.base.proofs.ListLaws.{padded_next, padded_set}
use Rattle.segments.specs.declared.Segment.{Segment}
use Rattle.segments.specs.Segments.{blank}
use Rattle.table.specs.Edits.{parts, push_all, push_seg, push_to, touching}

-- ---- one push

-- two segments as one
abbrev pub joined : Segment → Segment → Segment
joined a s = record { first = a.first; last = s.last; right = a.right }

push_to_joins : (a : Segment) (l : List Segment) (s e : Segment) → touching (get_or (a ∷ l) (length l) e) s ≡ true
    → push_to a l s ≡ set (a ∷ l) (length l) (joined (get_or (a ∷ l) (length l) e) s)
unfolding push_to pick
push_to_joins a [] s e t = rw t
push_to_joins a (b ∷ l) s e t = ap {B = List Segment} (λ r. a ∷ r) (push_to_joins b l s e t)

push_to_appends : (a : Segment) (l : List Segment) (s e : Segment) → touching (get_or (a ∷ l) (length l) e) s ≡ false
    → push_to a l s ≡ (a ∷ l) ++ (s ∷ [])
unfolding push_to pick
push_to_appends a [] s e t = rw t
push_to_appends a (b ∷ l) s e t = ap {B = List Segment} (λ r. a ∷ r) (push_to_appends b l s e t)

push_to_keeps_length : (a : Segment) (l : List Segment) (s : Segment) → length (a ∷ l) ≤ length (push_to a l s)
unfolding push_to pick
push_to_keeps_length a [] s = go (touching a s)
  where
    go : (b : Bool) → 1 ≤ length (pick b (joined a s ∷ []) (a ∷ s ∷ []))
    go true = omega arith
    go false = omega arith
push_to_keeps_length a (b ∷ l) s = let h = push_to_keeps_length b l s in omega arith

pub push_seg_keeps_length : (l : List Segment) (s : Segment) → length l ≤ length (push_seg l s)
unfolding push_seg
push_seg_keeps_length [] s = omega arith
push_seg_keeps_length (a ∷ l) s = push_to_keeps_length a l s

-- ---- a push onto a list that stands in places

last_in_entries : (items : List Segment) (n : ℕ) (a : Segment) (l : List Segment) (e : Segment) → items ≡ padded 32 blank (a ∷ l) → n ≡ length (a ∷ l)
    → get_or items (n - 1) e ≡ get_or (a ∷ l) (length l) e
unfolding padded
last_in_entries items n a l e p q =
    let k : n - 1 ≡ length l = omega arith in
    rw (p, k) (get_or-append (a ∷ l) (replicate (32 - length (a ∷ l)) blank) e (length l) (omega arith))

pub push_first : (items : List Segment) (n : ℕ) (s : Segment) (l : List Segment) → items ≡ padded 32 blank l → n ≡ length l → n ≡ 0
    → (set items 0 s ≡ padded 32 blank (push_seg l s)) × (length (push_seg l s) ≡ 1)
unfolding push_seg
push_first items n s [] p q z = (rw p (padded_next 32 blank [] 0 s refl (omega arith)), refl)
push_first items n s (a ∷ l) p q z = absurd (omega arith)

module _ (items : List Segment) (n : ℕ) (s e : Segment) where
  pub push_joins : (l : List Segment) → items ≡ padded 32 blank l → n ≡ length l → (n ≡ 0 → ⊥) → touching (get_or items (n - 1) e) s ≡ true
      → (set items (n - 1) (joined (get_or items (n - 1) e) s) ≡ padded 32 blank (push_seg l s)) × (length (push_seg l s) ≡ n)
  unfolding push_seg
  push_joins [] p q z t = absurd (z q)
  push_joins (a ∷ l) p q z t =
      let w = last_in_entries items n a l e p q in
      let j = push_to_joins a l s e (sym (ap (λ (x : Segment). touching x s) w) ∙ t) in
      let k : n - 1 ≡ length l = omega arith in (
        rw (w, j, p, k) (padded_set 32 blank (a ∷ l) (length l) (joined (get_or (a ∷ l) (length l) e) s) (omega arith)),
        rw j (length-set (a ∷ l) (length l) (joined (get_or (a ∷ l) (length l) e) s) ∙ sym q),
      )

  pub push_appends : (l : List Segment) → items ≡ padded 32 blank l → n ≡ length l → (n ≡ 0 → ⊥) → touching (get_or items (n - 1) e) s ≡ false
      → (n < 32 → set items n s ≡ padded 32 blank (push_seg l s)) × (length (push_seg l s) ≡ n + 1)
  unfolding push_seg
  push_appends [] p q z t = absurd (z q)
  push_appends (a ∷ l) p q z t =
      let w = last_in_entries items n a l e p q in
      let j = push_to_appends a l s e (sym (ap (λ (x : Segment). touching x s) w) ∙ t) in
      (λ r. rw (j, p, q) (padded_next 32 blank (a ∷ l) (length (a ∷ l)) s refl (omega arith)), rw (j, length-append (a ∷ l) (s ∷ []), q))

-- ---- parts of lists

pub push_all_append : (l ps qs : List Segment) → push_all l (ps ++ qs) ≡ push_all (push_all l ps) qs
unfolding push_all
push_all_append l [] qs = refl
push_all_append l (s ∷ ps) qs = push_all_append (push_seg l s) ps qs

pub parts_append : (g : Segment → List Segment) (l m : List Segment) → parts g (l ++ m) ≡ parts g l ++ parts g m
unfolding parts
parts_append g [] m = refl
parts_append g (s ∷ l) m = rw (parts_append g l m) (sym (append_assoc (g s) (parts g l) (parts g m)))

pub parts_next : (g : Segment → List Segment) (l : List Segment) (i : ℕ) (e : Segment) → i < length l
    → parts g (take (i + 1) l) ≡ parts g (take i l) ++ g (get_or l i e)
unfolding parts
parts_next g l i e h =
    rw (add-one i, take-suc l i e h, parts_append g (take i l) (get_or l i e ∷ [])) (ap (λ (r : List Segment). parts g (take i l) ++ r) (append-nil (g (get_or l i e))))
