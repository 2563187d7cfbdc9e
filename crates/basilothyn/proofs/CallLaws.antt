-- The two ways through each call: the record is no table, or the core answers for the table that it stands for.
use Rattle.std.proofs.Common.{◌≡◌, ℕ, Bool, List, ap, ◌∙◌}
use Rattle.std.specs.Prelude.{None, Some}
use Rattle.events.specs.Answers.{number_of_verdict, result_of}
use Rattle.events.specs.declared.outcome.Outcome.{Outcome}
use Rattle.base.specs.Answer.{Answer, given, refused}
use Rattle.segments.specs.declared.Table.{Table}
use Rattle.abi_table.specs.Answers.{option_of}
use Rattle.abi_table.specs.TableRecords.{record_of, table_in}
use Rattle.abi_table.specs.declared.types.TableRecord.{TableRecord}
use Rattle.abi_table.proofs.RecordLaws.{no_table_in, table_in_lem}
use Rattle.model.specs.Model.{Event}
use Rattle.events.specs.Events.{event_result}
use Rattle.route.specs.Routes.{routed}
use Rattle.route.specs.declared.piece.Piece.{Piece}
use Rattle.basilothyn.specs.declared.event.EventResult.{EventResult}
use Rattle.basilothyn.specs.declared.io.LocateResult.{LocateResult}
use Rattle.basilothyn.specs.Calls.{event_on_record, record_result_of, locate_result, recorded, routed_on}

module _ (r : TableRecord) (store : List ℕ) where
  module _ (e : Event) (y : EventResult) where
    pub not_decoded : None ≡ option_of (table_in r) → y ≡ record { refusal = 20; table = r } → record_result_of y store ≡ event_on_record e r store
    unfolding event_on_record
    not_decoded p q = ap (λ (z : EventResult). record_result_of z store) q ∙ rw (no_table_in r p)

    pub decoded : (t : Table) → Some t ≡ option_of (table_in r) → (o : Outcome) (after : List ℕ) → result_of o after ≡ event_result e t store
        → y ≡ record { refusal = number_of_verdict o.verdict; table = record_of o.table } → record_result_of y after ≡ event_on_record e r store
    unfolding event_on_record
    decoded t p o after h q = ap (λ (z : EventResult). record_result_of z after) q ∙ rw (table_in_lem r t p) (ap recorded h)

  module _ (write : Bool) (offset len : ℕ) (y : LocateResult) where
    pub not_routed : None ≡ option_of (table_in r) → y ≡ locate_result (refused 20) → y ≡ routed_on write r store offset len
    unfolding routed_on given
    not_routed p q = q ∙ rw (no_table_in r p)

    pub was_routed : (t : Table) → Some t ≡ option_of (table_in r) → (l : Answer Piece) → l ≡ routed write t store offset len
        → y ≡ locate_result l → y ≡ routed_on write r store offset len
    unfolding routed_on given
    was_routed t p l h q = q ∙ rw (table_in_lem r t p) (ap locate_result h)
