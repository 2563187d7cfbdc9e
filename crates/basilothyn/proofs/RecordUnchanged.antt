-- A refused call gives back the record that it was handed and leaves the store as it was; a record that is no table is refused with 20.
use Prim.Native.Nat.{ℕ}
use mathlib.Core.Path.{◌≡◌, refl, ap, ◌∙◌}
use mathlib.Core.Bool.{Bool}
use mathlib.Core.List.{List}
use Rattle.base.specs.Answer.{Answer, accepted, refused, given}
use Rattle.segments.specs.declared.Table.{Table}
use Rattle.abi_table.specs.TableRecords.{record_of, table_in}
use Rattle.abi_table.specs.declared.types.TableRecord.{TableRecord}
use Rattle.abi_table.proofs.RecordLaws.{no_table_is_20}
use Rattle.abi_table.proofs.TableRoundTrip.{record_back}
use Rattle.model.specs.Model.{Event}
use Rattle.refinement.proofs.Unchanged.{refusal_keeps}
use Rattle.basilothyn.specs.Calls.{event_on_record, event_on_decoded, locate_result, routed_on}

module _ (e : Event) (r : TableRecord) (store : List ℕ) where
  keeps : (a : Answer Table) → table_in r ≡ a → ((event_on_decoded a e r store).answer ≡ 0 → ⊥)
      → ((event_on_decoded a e r store).kept ≡ r) × ((event_on_decoded a e r store).store ≡ store)
  keeps (accepted t) p h =
      let k = refusal_keeps t store e h in
      (ap record_of k.0 ∙ record_back r t p, k.1)
  keeps (refused n) p h = (refl, refl)

  pub refused_call_keeps : ((event_on_record e r store).answer ≡ 0 → ⊥) → ((event_on_record e r store).kept ≡ r) × ((event_on_record e r store).store ≡ store)
  unfolding event_on_record
  refused_call_keeps h = keeps (table_in r) refl h

-- ---- a record that is no table

module _ (r : TableRecord) (n : ℕ) (no : table_in r ≡ refused n) (store : List ℕ) where
  pub no_table_event : (e : Event) → event_on_record e r store ≡ record { answer = 20; kept = r; store = store }
  unfolding event_on_record
  no_table_event e = rw (no, no_table_is_20 r n no)

  pub no_table_routed : (write : Bool) (offset len : ℕ) → routed_on write r store offset len ≡ locate_result (refused 20)
  unfolding routed_on given
  no_table_routed write offset len = rw (no, no_table_is_20 r n no)
