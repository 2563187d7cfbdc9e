-- Laws of a layout return by the bytes of its statistics: what was encoded, and what is written with it.
use Prim.Native.Nat.{ℕ, ◌+◌, ◌-◌, ◌≤◌}
use mathlib.Core.Path.{◌≡◌, refl, sym, ap, ◌∙◌}
use mathlib.Core.List.{List}
use native.Mathlib.Omega.{arith}
use borrow.Author.Tests.{le-leb}
use lib.ListN.{length, take, replicate, length-append, length-replicate}
use lib.Seq.{take_at}
use Rattle.base.specs.Answer.{Answer, accepted, refused, given, pick}
use Rattle.base.specs.Lists.{length_of, members_in, padded}
use Rattle.base.proofs.AnswerLaws.{given_refused, never_accepted, same_answer}
use Rattle.statistics.specs.Encoding.{encoded}
use Rattle.statistics.specs.StatisticBytes.{statistics_part}
use Rattle.statistics.specs.StatisticChecks.{checked_statistics}
use Rattle.statistics.specs.declared.Statistic.{Statistic}
use Rattle.report.specs.declared.Outgoing.{Outgoing}
use Rattle.report.specs.ReportOffsets.{sent}
use Rattle.report.specs.Writing.{ErrorEntry, body_written, return_written}
use Rattle.report.proofs.ReturnRoundTrip.{return_by_body}

-- ---- what was encoded

encoded_few : (n : ℕ) (rs : List Statistic) → n ≤ 8 → encoded n rs ≡ given (checked_statistics (take n rs)) (λ u. accepted (statistics_part (take n rs)))
unfolding encoded pick
encoded_few n rs h = rw (le-leb n 8 h)

-- the bytes of an answer, in an array that zeros fill up
pub record Filled (a : Answer (List ℕ)) (n : ℕ) (bytes : List ℕ) (size : ℕ) : Type 0 where
  pub content : List ℕ
  pub were : a ≡ accepted content
  pub few : n ≤ size
  pub taken : take n bytes ≡ content

pub filled : (a : Answer (List ℕ)) (n : ℕ) (bytes : List ℕ) (size : ℕ) → accepted n ≡ length_of a → bytes ≡ padded size 0 (members_in a) → length bytes ≡ size → Filled a n bytes size
unfolding length_of given padded
filled (accepted bs) n bytes size e f g =
    let k : n ≡ length bs = same_answer e in
    let m : length bytes ≡ length bs + (size - length bs) = ap length f ∙ length-append bs (replicate (size - length bs) 0) ∙ ap (λ (j : ℕ). length bs + j) (length-replicate (size - length bs) 0) in
    record { content = bs; were = refl; few = omega (arith, k, m, g); taken = rw (k, f) (take_at bs _ (length bs) refl) }
filled (refused m) n bytes size e f g = never_accepted m n (sym e)

both_accepted : (k : Answer (Unit {0})) (p z : List ℕ) → given k (λ u. accepted p) ≡ accepted z → (k ≡ accepted tt) × (p ≡ z)
unfolding given
both_accepted (accepted u) p z e = (refl, same_answer e)
both_accepted (refused n) p z e = never_accepted n z e

-- ---- what is written with it

module _ (o : Outgoing) (es : List ErrorEntry) (room : ℕ) (h : o.statistic_count ≤ 8) where
  pub return_of_encoded : (z : List ℕ) → encoded o.statistic_count o.statistics ≡ accepted z
      → return_written o es room ≡ body_written o.count o.heads es (accepted tt) z room
  return_of_encoded z e =
      let a = both_accepted (checked_statistics (sent o)) (statistics_part (sent o)) z (sym (encoded_few o.statistic_count o.statistics h) ∙ e) in
      return_by_body o es room h ∙ ap (λ k. body_written o.count o.heads es k (statistics_part (sent o)) room) a.0
      ∙ ap (λ (bs : List ℕ). body_written o.count o.heads es (accepted tt) bs room) a.1

  pub return_of_refused : (n : ℕ) (z : List ℕ) → encoded o.statistic_count o.statistics ≡ refused n
      → return_written o es room ≡ body_written o.count o.heads es (refused n) z room
  unfolding body_written given
  return_of_refused n z e =
      let a = given_refused (checked_statistics (sent o)) _ n (sym (encoded_few o.statistic_count o.statistics h) ∙ e) in
      rw (return_by_body o es room h, a)
