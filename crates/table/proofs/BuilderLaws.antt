-- Laws of builders: what each way out of a push gives, the parts of one segment more, and the end of an edit.
use Prim.Native.Nat.{ℕ, ◌+◌, ◌-◌, ◌≤◌, ◌<◌}
use mathlib.Core.Path.{◌≡◌, refl, sym, ◌∙◌}
use mathlib.Core.Bool.{Bool, true, false, false≢true}
use mathlib.Core.List.{List, [], ◌∷◌, ◌++◌, append_assoc}
use Rattle.std.specs.Prelude.{None, Some}
use native.Mathlib.Omega.{arith}
use borrow.Author.Tests.{le-leb, lt-leb}
use lib.ListN.{length, take, get_or, set}
use lib.Seq.{take_all}
use Rattle.base.specs.Answer.{pick}
use Rattle.segments.specs.declared.Segment.{Segment}
use Rattle.segments.specs.declared.Segments.{Segments}
use Rattle.segments.specs.Segments.{in_entries, list_of}
use Rattle.table.specs.declared.change.Change.{Change}
use Rattle.table.specs.declared.builder.Builder.{Builder}
use Rattle.table.specs.Edits.{edited, edited_in, parts, push_all, touching}
use Rattle.table.specs.Builders.{Built}
use Rattle.table.proofs.PushLists.{joined, parts_next, push_appends, push_first, push_joins, push_all_append, push_seg_keeps_length}

pub never_both : {b : Bool} → b ≡ false → b ≡ true → ⊥
never_both p q = false≢true (sym p ∙ q)

-- ---- the ways out of a push

module _ (items : List Segment) (n : ℕ) (s e : Segment) (l : List Segment) where
  -- a list in a builder that is full, with a segment more
  pub full_stays : (f : Bool) → f ≡ true → Built record { items = items; count = n; full = f } l
      → Built record { items = items; count = n; full = f } (push_all l (s ∷ []))
  unfolding push_all
  full_stays f w h =
      record {
        small = h.small;
        entries = λ g. absurd (never_both g w);
        number = λ g. absurd (never_both g w);
        over = λ g. let m = push_seg_keeps_length l s in let b = h.over w in omega arith;
      }

  pub starts : (f : Bool) → f ≡ false → n ≤ 0 → Built record { items = items; count = n; full = f } l
      → Built record { items = set items n s; count = n + 1; full = f } (push_all l (s ∷ []))
  unfolding push_all
  starts f w y h =
      let z : n ≡ 0 = omega arith in
      let p = push_first items n s l (h.entries w) (h.number w) z in record {
        small = omega arith;
        entries = λ g. rw z p.0;
        number = λ g. rw z (sym p.1);
        over = λ g. absurd (never_both w g);
      }

  pub joins : (f : Bool) → f ≡ false → 0 < n → touching (get_or items (n - 1) e) s ≡ true
      → Built record { items = items; count = n; full = f } l
      → Built record { items = set items (n - 1) (joined (get_or items (n - 1) e) s); count = n; full = f } (push_all l (s ∷ []))
  unfolding push_all
  joins f w z t h =
      let p = push_joins items n s e l (h.entries w) (h.number w) (λ k. omega arith) t in record {
        small = h.small;
        entries = λ g. p.0;
        number = λ g. sym p.1;
        over = λ g. absurd (never_both w g);
      }

  pub appends : (f : Bool) → f ≡ false → 0 < n → touching (get_or items (n - 1) e) s ≡ false → n < 32
      → Built record { items = items; count = n; full = f } l
      → Built record { items = set items n s; count = n + 1; full = f } (push_all l (s ∷ []))
  unfolding push_all
  appends f w z t m h =
      let p = push_appends items n s e l (h.entries w) (h.number w) (λ k. omega arith) t in record {
        small = omega arith;
        entries = λ g. p.0 m;
        number = λ g. sym p.1;
        over = λ g. absurd (never_both w g);
      }

  pub fills : (f : Bool) → f ≡ false → 0 < n → touching (get_or items (n - 1) e) s ≡ false → 32 ≤ n
      → Built record { items = items; count = n; full = f } l
      → Built record { items = items; count = n; full = true } (push_all l (s ∷ []))
  unfolding push_all
  fills f w z t m h =
      let p = push_appends items n s e l (h.entries w) (h.number w) (λ k. omega arith) t in record {
        small = h.small;
        entries = λ g. absurd (never_both g refl);
        number = λ g. absurd (never_both g refl);
        over = λ g. let w = p.1 in omega arith;
      }

-- ---- the parts of one segment more

pub part_pushed : (d : Builder) (g : Segment → List Segment) (segments before ps : List Segment) (i : ℕ) (e : Segment) → i < length segments
    → ps ≡ g (get_or segments i e) → Built d (push_all (push_all [] (before ++ parts g (take i segments))) ps)
    → Built d (push_all [] (before ++ parts g (take (i + 1) segments)))
part_pushed d g segments before ps i e h q b =
    rw (parts_next g segments i e h, ← q, ← (append_assoc before (parts g (take i segments)) ps), push_all_append [] (before ++ parts g (take i segments)) ps) b

pub all_pushed : (d : Builder) (g : Segment → List Segment) (segments before : List Segment) (i : ℕ) → length segments ≤ i
    → Built d (push_all [] (before ++ parts g (take i segments))) → Built d (push_all [] (before ++ parts g segments))
all_pushed d g segments before i h b = rw (take_all i segments h) at b

-- ---- the end of an edit

module _ (c : Change) (lo hi : ℕ) (g : Segments) (r : Builder) {l : List Segment} (q : l ≡ list_of g) (h : Built r (edited c lo hi l)) where
  pub edit_over : r.full ≡ true → None ≡ edited_in c lo hi g
  unfolding edited_in pick
  edit_over f = rw (← q, lt-leb (length (edited c lo hi l)) 32 (h.over f))

  pub edit_fits : r.full ≡ false → Some (record { items = r.items; count = r.count }) ≡ edited_in c lo hi g
  unfolding edited_in pick in_entries
  edit_fits f =
      let n = h.number f in
      let k = h.small in
      rw (← q, le-leb (length (edited c lo hi l)) 32 (omega arith), ← (h.entries f), ← n)
