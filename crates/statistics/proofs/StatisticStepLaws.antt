-- Laws of records one after the other: a record by its places, and the list by its count.
use Prim.Native.Nat.{ℕ}
use mathlib.Core.Path.{◌≡◌, sym, ◌∙◌}
use mathlib.Core.List.{List}
use Rattle.xdr.specs.Parsed.{ok, fault, then, many_at, end_of}
use Rattle.xdr.specs.Items.{count_at}
use Rattle.xdr.proofs.ListedLaws.{Members, list_by_members, members_read, members_refused}
use Rattle.statistics.specs.Statistics.{blank_statistic, item_at, statistic_at, statistic_entries_at, statistic_from, statistics_at}
use Rattle.statistics.specs.declared.Statistic.{Statistic}
use Rattle.statistics.specs.declared.item.StatisticItem.{StatisticItem}

module _ (s : List ℕ) (at : ℕ) where
  pub statistic_refused : (n : ℕ) → item_at s at ≡ fault n → statistic_at s at ≡ fault n
  unfolding statistic_at then
  statistic_refused n e = rw e

  pub statistic_read : (i : StatisticItem) (p : ℕ) → item_at s at ≡ ok i p → statistic_at s at ≡ ok (statistic_from s i) p
  unfolding statistic_at then
  statistic_read i p e = rw e

  pub count_refused : (n : ℕ) → count_at 0 8 s at ≡ fault n → end_of (statistics_at s at) ≡ fault n
  unfolding statistics_at then end_of
  count_refused n e = rw e

  pub statistics_begun : (n p : ℕ) → count_at 0 8 s at ≡ ok n p → statistics_at s at ≡ many_at statistic_at n s p
  unfolding statistics_at then
  statistics_begun n p e = rw e

  -- ---- the list in its entries

  pub list_refused : (n : ℕ) → statistic_entries_at s at ≡ fault n → statistics_at s at ≡ fault n
  unfolding statistics_at
  list_refused n e = members_refused 8 blank_statistic _ n (sym (list_by_members 0 8 statistic_at blank_statistic s at) ∙ e)

  pub list_read : (n : ℕ) (entries : List Statistic) (p : ℕ) → statistic_entries_at s at ≡ ok (record { count = n; entries = entries }) p
      → Members 8 blank_statistic (statistics_at s at) n entries p
  unfolding statistics_at
  list_read n entries p e = members_read 8 blank_statistic _ n entries p (sym (list_by_members 0 8 statistic_at blank_statistic s at) ∙ e)
