-- An edit of the model's table is the table of the model after the event.
use Prim.Native.Nat.{ℕ, ◌≤◌}
use mathlib.Core.Path.{◌≡◌, refl, sym, ap, ◌∙◌}
use mathlib.Core.Bool.{Bool, true, false, not, ◌||◌}
use mathlib.Core.List.{List}
use native.Mathlib.Omega.{arith}
use borrow.Author.Tests.{le-leb, leb-true, leb-false, lt-ltb, le-ltb}
use lib.Dec.{leb, ltb}
use lib.ListN.{length}
use Rattle.base.specs.Answer.{accepted, refused, pick}
use Rattle.base.proofs.AnswerLaws.{pick_true}
use Rattle.segments.specs.declared.Segment.{Segment}
use Rattle.segments.specs.declared.Segments.{Segments}
use Rattle.segments.specs.Segments.{Mode, READ, RW, acts_on, in_entries}
use Rattle.table.specs.declared.change.Change.{Change}
use Rattle.std.specs.Prelude.{Option, None, Some}
use Rattle.model.proofs.Decode.{list_of_lem}
use Rattle.segments.proofs.ScanLaws.{segments_ext}
use Rattle.refinement.proofs.EditShows.{edit_scan}
use Rattle.table.specs.Edits.{both_fit, changed_right, edited, edited_in, edited_where, table_edited}
use Rattle.refinement.proofs.Changed.{changed_fun}
use Rattle.model.specs.Model.{Model, Command, act, after_at, covers, segments_in, table_of, has_too_many, with_slot}

-- ---- one iomode

fitted : List Segment → Option Segments
fitted l = pick (leb (length l) 32) (Some (in_entries l)) None

-- ---- both

too_many : (n : ℕ) → ltb 32 n ≡ not (leb n 32)
too_many n = go (leb n 32) refl
  where
    go : (b : Bool) → leb n 32 ≡ b → ltb 32 n ≡ not b
    go true e = le-ltb 32 n (leb-true n 32 e)
    go false e = lt-ltb 32 n (let h = leb-false n 32 e in omega arith)

module _ (N : ℕ) (M : Model) (o : Command) (c : Change) (rising : o.first ≤ o.last) (ends : o.last ≤ N)
    (few : (m : Mode) → length (segments_in N M m) ≤ 32)
    (agrees : (m : Mode) (x : ℕ) → x ≤ N
    → with_slot (act N o M).slots (after_at o m x (M.right m x))
    ≡ pick (covers o m x) (changed_right c (with_slot M.slots (M.right m x))) (with_slot M.slots (M.right m x)))
  where
    pub list_edited : (m : Mode) → acts_on o.iomode m ≡ true → edited c o.first o.last (segments_in N M m) ≡ segments_in N (act N o M) m
    unfolding segments_in act covers changed_fun
    list_edited m e =
        edit_scan N (λ x. with_slot M.slots (M.right m x)) c o.first o.last rising ends
        ∙ segments_ext N _ _ (λ x k. sym (agrees m x k ∙ rw e))

    pub list_kept : (m : Mode) → acts_on o.iomode m ≡ false → segments_in N (act N o M) m ≡ segments_in N M m
    unfolding segments_in act covers pick
    list_kept m e = segments_ext N _ _ (λ x k. agrees m x k ∙ rw e)

    edited_in_lem : (m : Mode) (b : Bool) → acts_on o.iomode m ≡ b
        → edited_where b c o.first o.last (in_entries (segments_in N M m)) ≡ fitted (segments_in N (act N o M) m)
    unfolding edited_in fitted
    edited_in_lem m true e =
        ap fitted
        (ap (edited c o.first o.last) (list_of_lem (segments_in N M m)) ∙ list_edited m e)
    edited_in_lem m false e =
        rw (list_kept m e) (sym (pick_true (leb (length (segments_in N M m)) 32) _ _ (le-leb _ 32 (few m))))

    both_fit_lem : (a b : Bool) (k l : Segments)
        → both_fit (pick a (Some k) None) (pick b (Some l) None)
        ≡ pick (not a || not b) (refused 23) (accepted (record { read = k; rw = l }))
    unfolding pick
    both_fit_lem true true k l = refl
    both_fit_lem true false k l = refl
    both_fit_lem false b k l = refl

    -- 23 of the model is the table's
    pub edit_model : table_edited c o.iomode o.first o.last (table_of N M)
        ≡ pick (has_too_many N (act N o M)) (refused 23) (accepted (table_of N (act N o M)))
    unfolding table_edited table_of has_too_many fitted
    edit_model =
        (λ i. both_fit (edited_in_lem READ _ refl i) (edited_in_lem RW _ refl i))
        ∙ (both_fit_lem (leb (length (segments_in N (act N o M) READ)) 32) (leb (length (segments_in N (act N o M) RW)) 32) _ _
        ∙ rw (too_many (length (segments_in N (act N o M) READ)), too_many (length (segments_in N (act N o M) RW))))
