-- A test over the segments of the model's table is the model's own test over bytes.
use Prim.Native.Nat.{ℕ, suc, ◌≤◌, ◌<◌}
use mathlib.Core.Path.{◌≡◌, sym, ap, ◌∙◌}
use mathlib.Core.Bool.{Bool, true, false, ◌&&◌, ◌||◌, and_assoc}
use mathlib.Core.List.{List}
use native.Mathlib.Omega.{arith}
use Rattle.segments.specs.declared.Right.{Right}
use Rattle.segments.specs.declared.Right.TheVariants.{None}
use Rattle.segments.specs.declared.Segment.{Segment}
use Rattle.segments.specs.Segments.{Mode, READ, RW, acts_on, any_below, any_meets, list_in, within}
use Rattle.segments.proofs.ScanLaws.{any_ext, any_none}
use Rattle.segments.proofs.SegmentTests.{meets_scan}
use Rattle.lookup.specs.Lookup.{table_meets}
use Rattle.model.proofs.Decode.{list_in_lem}
use Rattle.model.specs.Model.{ByteRight, Model, Command, any_byte, covers, meets, segments_in, table_of, with_slot}

and_any : (a : Bool) (p q : ℕ → Bool) (n : ℕ) → ((x : ℕ) → x < n → (a && p x) ≡ q x) → (a && any_below p n) ≡ any_below q n
and_any true p q n h = any_ext p q n h
and_any false p q n h = sym (any_none q n (λ x k. sym (h x k)))

regroup : (a b c d : Bool) → c ≡ d → (a && (b && c)) ≡ ((a && b) && d)
regroup a b c d e = ap (λ (y : Bool). a && (b && y)) e ∙ sym (and_assoc a b d)

module _ (N : ℕ) (M : Model) (o : Command) (p : Right → Bool) (q : ByteRight → Bool) (rising : o.first ≤ o.last) (free : p None ≡ false)
    (same : (m : Mode) (x : ℕ) → x ≤ N → p (with_slot M.slots (M.right m x)) ≡ q (M.right m x))
  where
    meets_in : (m : Mode)
        → (acts_on o.iomode m && any_meets p o.first o.last (list_in (table_of N M) m))
        ≡ any_below (λ x. covers o m x && q (M.right m x)) (suc N)
    unfolding covers segments_in
    meets_in m =
        ap (λ (l : List Segment). acts_on o.iomode m && any_meets p o.first o.last l) (list_in_lem N M m)
        ∙ (ap (λ (y : Bool). acts_on o.iomode m && y) (meets_scan N (λ x. with_slot M.slots (M.right m x)) p o.first o.last rising free)
        ∙ and_any (acts_on o.iomode m) (λ x. within o.first o.last x && p (with_slot M.slots (M.right m x)))
        (λ x. covers o m x && q (M.right m x)) (suc N)
        (λ x k. regroup (acts_on o.iomode m) (within o.first o.last x) (p (with_slot M.slots (M.right m x))) (q (M.right m x)) (same m x (omega arith))))

    pub meets_model : table_meets p o.iomode o.first o.last (table_of N M) ≡ meets N o q M
    unfolding table_meets meets any_byte
    meets_model = λ i. meets_in READ i || meets_in RW i
