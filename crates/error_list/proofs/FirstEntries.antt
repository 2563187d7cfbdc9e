-- Writing looks at the list's length and at its first 128 records: a report has at most 16 errors, or is refused before its errors are looked at.
use Prim.Native.Nat.{ℕ, suc, ◌+◌, ◌*◌, ◌≤◌, ◌<◌}
use mathlib.Core.Path.{◌≡◌, refl}
use mathlib.Core.List.{List, [], ◌∷◌, ◌++◌}
use mathlib.Core.Bool.{Bool, true, false, ◌&&◌, and-false}
use native.Mathlib.Omega.{arith}
use borrow.Author.Tests.{leb-true, leb-false, lt-leb}
use lib.Dec.{leb, eqb}
use lib.ListN.{length, take, drop, length-take}
use Rattle.base.specs.Answer.{Answer, accepted, refused, given, pick}
use Rattle.base.proofs.ListLaws.{distinct_behind, distinct_less}
use Rattle.base.specs.Ranges.{range_last}
use Rattle.octets.specs.Numbers.{be_bytes}
use Rattle.statistics.specs.declared.Statistic.{Statistic}
use Rattle.statistics.specs.StatisticBytes.{statistics_part}
use Rattle.statistics.specs.StatisticChecks.{checked_statistics}
use Rattle.report.specs.declared.Outgoing.{Outgoing}
use Rattle.report.specs.declared.ReportHead.{ReportHead}
use Rattle.report.specs.Writing.{all_fit, body_bytes, counts, ErrorEntry, errors_bytes, fitted, head_bytes, checked_reports, checked_report, reports_bytes, return_bytes, return_written}

-- ---- one report

-- more than 16 errors: refused, whatever the errors are
many_refused : {A B : Type 0} (h : ReportHead) (xs ys : List ErrorEntry) (f f' : Unit {0} → Answer A) (g g' : A → Answer B) → 16 < h.errors
    → given (given (checked_report h xs) f) g ≡ given (given (checked_report h ys) f') g'
unfolding checked_report given pick
many_refused h xs ys f f' g g' m = go (range_last h.offset h.length) where
  go : (r : Answer ℕ)
      → given (given (given r (λ last. pick (leb 1 h.errors && leb h.errors 16) (pick (all_fit xs) (accepted tt) (refused 27)) (refused 8))) f) g
      ≡ given (given (given r (λ last. pick (leb 1 h.errors && leb h.errors 16) (pick (all_fit ys) (accepted tt) (refused 27)) (refused 8))) f') g'
  go (accepted last) = rw (lt-leb h.errors 16 m, and-false (leb 1 h.errors))
  go (refused n) = refl

given_alike : {A B C : Type 0} (x : Answer A) (y y' : Answer B) (f f' : Answer C) → given y (λ u. f) ≡ given y' (λ u. f')
    → given (given x (λ u. y)) (λ u. f) ≡ given (given x (λ u. y')) (λ u. f')
unfolding given
given_alike (accepted a) y y' f f' e = e
given_alike (refused n) y y' f f' e = refl

-- ---- the reports

reports_alike : {B : Type 0} (hs : List ReportHead) (xs ys : List ErrorEntry) (f : List ℕ → Answer B) → take (16 * length hs) xs ≡ take (16 * length hs) ys
    → given (checked_reports hs xs) (λ u. f (reports_bytes hs xs)) ≡ given (checked_reports hs ys) (λ u. f (reports_bytes hs ys))
unfolding checked_reports reports_bytes
reports_alike [] xs ys f e = refl
reports_alike {B} (h ∷ hs) xs ys f e = go (leb h.errors 16) refl (reports_alike hs) where
  go : (t : Bool) → leb h.errors 16 ≡ t
      → ((vs ws : List ErrorEntry) (g : List ℕ → Answer B) → take (16 * length hs) vs ≡ take (16 * length hs) ws
      → given (checked_reports hs vs) (λ u. g (reports_bytes hs vs)) ≡ given (checked_reports hs ws) (λ u. g (reports_bytes hs ws)))
      → given (checked_reports (h ∷ hs) xs) (λ u. f (reports_bytes (h ∷ hs) xs)) ≡ given (checked_reports (h ∷ hs) ys) (λ u. f (reports_bytes (h ∷ hs) ys))
  go true k again =
      let n = h.errors in
      let few : n ≤ 16 = leb-true n 16 k in
      let a : take n xs ≡ take n ys = distinct_less n (16 * suc (length hs)) xs ys (omega arith) e in
      let b : take (16 * length hs) (drop n xs) ≡ take (16 * length hs) (drop n ys) =
      distinct_behind n (16 * length hs) xs ys (distinct_less (n + 16 * length hs) (16 * suc (length hs)) xs ys (omega arith) e) in
      rw a (given_alike (checked_report h (take n ys)) _ _ _ _ (again (drop n xs) (drop n ys) (λ bs. f (head_bytes h ++ (errors_bytes (take n ys) ++ bs))) b))
  go false k again = many_refused h _ _ _ _ _ _ (leb-false h.errors 16 k)

-- ---- the whole

-- what is written of the reports hs with the errors zs, and of the statistics rs
abbrev judged : List ReportHead → List Statistic → ℕ → List ErrorEntry → Answer (List ℕ)
judged hs rs room zs = given (checked_reports hs zs) (λ u. given (checked_statistics rs) (λ v. fitted (return_bytes hs zs rs) room))

judged_alike : (hs : List ReportHead) (rs : List Statistic) (xs ys : List ErrorEntry) (room : ℕ) → length hs ≤ 8 → take 128 xs ≡ take 128 ys → judged hs rs room xs ≡ judged hs rs room ys
unfolding body_bytes
judged_alike hs rs xs ys room n e =
    reports_alike hs xs ys (λ bs. given (checked_statistics rs) (λ v. fitted (be_bytes 4 (length hs) ++ (bs ++ statistics_part rs)) room))
    (distinct_less (16 * length hs) 128 xs ys (omega arith) e)

pub firsts_decide : (o : Outgoing) (xs ys : List ErrorEntry) (room : ℕ) → length xs ≡ length ys → take 128 xs ≡ take 128 ys → return_written o xs room ≡ return_written o ys room
unfolding return_written pick
firsts_decide o xs ys room l e = rw l (go (leb o.count 8) refl) where
  go : (t : Bool) → leb o.count 8 ≡ t
      → pick t (pick (eqb (counts (take o.count o.heads)) (length ys)) (pick (leb o.statistic_count 8)
      (judged (take o.count o.heads) (take o.statistic_count o.statistics) room xs) (refused 8)) (refused 8)) (refused 8)
      ≡ pick t (pick (eqb (counts (take o.count o.heads)) (length ys)) (pick (leb o.statistic_count 8)
      (judged (take o.count o.heads) (take o.statistic_count o.statistics) room ys) (refused 8)) (refused 8)) (refused 8)
  go true k =
      let few : o.count ≤ 8 = leb-true o.count 8 k in
      let n : length (take o.count o.heads) ≤ 8 = rw (length-take o.count o.heads) (omega arith) in
      rw (judged_alike (take o.count o.heads) (take o.statistic_count o.statistics) xs ys room n e)
  go false k = refl
