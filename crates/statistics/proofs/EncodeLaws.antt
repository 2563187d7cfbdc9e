-- Laws of records that are checked and stored one after the other: what is left to be stored, and the first record apart.
use Prim.Native.Nat.{ℕ, ◌+◌, ◌≤◌, ◌<◌}
use mathlib.Core.Path.{◌≡◌, refl, sym, ap, ◌∙◌}
use mathlib.Core.Bool.{true}
use mathlib.Core.List.{List, [], ◌++◌}
use native.Mathlib.Omega.{arith}
use borrow.Author.Tests.{le-leb, lt-leb}
use native.Mathlib.Numerals.{add-one}
use lib.ListN.{length, take, drop, get_or, replicate, drop_of_length-le, length-append}
use lib.Seq.{drop-cons, length-take-le, sets}
use Rattle.base.specs.Answer.{Answer, accepted, refused, given, pick}
use Rattle.std.specs.Prelude.{Result, Ok, Err}
use Rattle.std.specs.Result.{IsErr}
use Rattle.base.specs.declared.refusal.Fault.{Fault}
use Rattle.base.specs.Results.{answer_of}
use Rattle.base.specs.Limits.{longest_statistics, most_statistics}
use Rattle.base.specs.Lists.{length_of, members_in, padded}
use Rattle.base.proofs.AnswerLaws.{given_inv, pick_accepted}
use Rattle.base.proofs.ListLaws.{filled_is_padded, sets_append}
use Rattle.octets.specs.Numbers.{be_bytes}
use Rattle.statistics.specs.Encoding.{encoded}
use Rattle.statistics.specs.StatisticBytes.{PutAt, statistic_bytes, statistics_bytes, statistics_part}
use Rattle.statistics.specs.StatisticChecks.{checked_statistic, checked_statistics, lengths_fit}
use Rattle.statistics.specs.declared.Statistic.{Statistic}

-- ---- what is left to be stored

-- to store cs over m from p on is to store bs over l from an offset on
pub record Left (l : List ℕ) (at : ℕ) (bs m : List ℕ) (p : ℕ) (cs : List ℕ) : Type 0 where
  pub stores : sets l at bs ≡ sets m p cs
  pub ends : at + length bs ≡ p + length cs

pub all_left : (l : List ℕ) (at : ℕ) (bs : List ℕ) → Left l at bs l at bs
all_left l at bs = record { stores = refl; ends = refl }

pub less_left : {l bs m n : List ℕ} {at p q : ℕ} (xs cs : List ℕ) → Left l at bs m p (xs ++ cs) → PutAt m p xs n q → Left l at bs n q cs
less_left {m = m} {n = n} {p = p} xs cs w h = record {
  stores = w.stores ∙ sets_append m p xs cs ∙ ap (λ (k : List ℕ). sets k (p + length xs) cs) (sym h.bytes) ∙ ap (λ (k : ℕ). sets n k cs) (sym h.next);
  ends = w.ends ∙ rw (length-append xs cs) (omega (arith, h.next));
}

pub none_left : {l bs m : List ℕ} {at p : ℕ} → Left l at bs m p [] → PutAt l at bs m p
none_left w = record { bytes = sym w.stores; next = omega (arith, w.ends) }

-- ---- the first record apart

module _ (rs : List Statistic) (i : ℕ) where
  pub checked_next : (d : Statistic) (a : Answer (Unit {0})) → i < length rs → a ≡ checked_statistic (get_or rs i d)
      → checked_statistics (drop i rs) ≡ given a (λ u. checked_statistics (drop (i + 1) rs))
  unfolding checked_statistics
  checked_next d a h e = rw (add-one i, drop-cons rs i d h, ← e)

  pub record_stored : {l bs s n : List ℕ} {at p q : ℕ} (d : Statistic) → i < length rs
      → Left l at bs s p (statistics_bytes (drop i rs)) → PutAt s p (statistic_bytes (get_or rs i d)) n q
      → Left l at bs n q (statistics_bytes (drop (i + 1) rs))
  unfolding statistics_bytes
  record_stored d h w s = less_left (statistic_bytes (get_or rs i d)) _ (rw (add-one i) (rw (drop-cons rs i d h) at w)) s

  pub checked_none : length rs ≤ i → checked_statistics (drop i rs) ≡ accepted tt
  unfolding checked_statistics
  checked_none h = rw (drop_of_length-le rs h)

  pub bytes_none : length rs ≤ i → statistics_bytes (drop i rs) ≡ []
  unfolding statistics_bytes
  bytes_none h = rw (drop_of_length-le rs h)

-- the count is stored: the records are left
pub records_left : (count : ℕ) (rs : List Statistic) (l m : List ℕ) → count ≤ length rs → PutAt l 0 (be_bytes 4 count) m 4
    → Left l 0 (statistics_part (take count rs)) m 4 (statistics_bytes (take count rs))
unfolding statistics_part
records_left count rs l m h w =
    less_left (be_bytes 4 count) (statistics_bytes (take count rs))
    (rw (length-take-le count rs h) (all_left l 0 (be_bytes 4 count ++ statistics_bytes (take count rs)))) w

-- ---- the answer

-- a record that may be written has lengths that fit
pub allowed_lengths : (r : Statistic) (u : Unit {0}) → checked_statistic r ≡ accepted u → lengths_fit r.update ≡ true
unfolding checked_statistic
allowed_lengths r u h = (pick_accepted _ _ _ _ (given_inv _ _ _ h).rest).0

module _ (count : ℕ) (rs : List Statistic) where
  pub too_many : most_statistics < count → encoded count rs ≡ refused 8
  unfolding encoded pick
  too_many h = rw (lt-leb _ _ h)

  pub one_refused : (k : ℕ) → count ≤ most_statistics → checked_statistics (take count rs) ≡ refused k → encoded count rs ≡ refused k
  unfolding encoded pick given
  one_refused k h e = rw (le-leb _ _ h, e)

  pub all_allowed : count ≤ most_statistics → checked_statistics (take count rs) ≡ accepted tt
      → encoded count rs ≡ accepted (statistics_part (take count rs))
  unfolding encoded pick given
  all_allowed h e = rw (le-leb _ _ h, e)

module _ (x : Answer (List ℕ)) where
  pub refused_as_said : (n : ℕ) → x ≡ refused n → refused n ≡ length_of x
  unfolding length_of given
  refused_as_said n h = rw h

  pub stored_as_said : (bs m : List ℕ) (p : ℕ) → PutAt (replicate longest_statistics 0) 0 bs m p → p ≤ longest_statistics → x ≡ accepted bs
      → (accepted p ≡ length_of x) × (m ≡ padded longest_statistics 0 (members_in x))
  unfolding length_of given
  stored_as_said bs m p w k h =
      let e : p ≡ length bs = omega (arith, w.next) in
      rw h (ap accepted e, w.bytes ∙ filled_is_padded longest_statistics 0 bs (omega arith))

-- after a refusal each byte is 0
pub blank_after : (r : Result ℕ Fault) (x : Answer (List ℕ)) → IsErr r → answer_of r ≡ length_of x
    → replicate longest_statistics 0 ≡ padded longest_statistics 0 (members_in x)
unfolding length_of given padded
blank_after (Ok n) (accepted l) w e = cc
blank_after (Ok n) (refused k) w e = refl
blank_after (Err f) (accepted l) w e = cc
blank_after (Err f) (refused k) w e = refl
