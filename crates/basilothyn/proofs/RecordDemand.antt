-- Calls over records do what the calls on tables do, so demand 3 is theirs too.
use Prim.Native.Nat.{ℕ}
use mathlib.Core.Path.{◌≡◌, ap, ◌∙◌}
use mathlib.Core.Bool.{Bool}
use mathlib.Core.List.{List}
use lib.ListN.{replicate}
use Rattle.base.specs.Answer.{given}
use Rattle.base.specs.Lists.{Each}
use Rattle.base.specs.Ranges.{last_byte}
use Rattle.segments.specs.declared.Table.{Table}
use Rattle.abi_table.specs.TableRecords.{record_of}
use Rattle.abi_table.specs.declared.types.TableRecord.{TableRecord}
use Rattle.abi_table.proofs.TableRoundTrip.{table_back}
use Rattle.model.specs.Model.{Event, Model, rights_and_slots, run, start, table_of}
use Rattle.model.specs.Invariants.{left_by}
use Rattle.model.specs.Claim.{Demand3, Fits, kept_left}
use Rattle.model.proofs.ModelLaws.{plain_lawful}
use Rattle.model.proofs.FromStep.{demand_3, kept_left_lem, start_table}
use Rattle.events.specs.Events.{event_result}
use Rattle.refinement.proofs.Demand.{step_met}
use Rattle.route.specs.Routes.{routed}
use Rattle.basilothyn.specs.Calls.{event_on_record, empty_record, locate_result, recorded, routed_on, table_of_record}

-- an exported event on the record of a table leaves the record of the table that the event leaves
pub on_record : (e : Event) (t : Table) (store : List ℕ) → event_on_record e (record_of t) store ≡ recorded (event_result e t store)
unfolding event_on_record
on_record e t store = rw (table_back t)

-- and an exported lookup answers what the lookup does
pub on_record_routed : (write : Bool) (t : Table) (store : List ℕ) (offset len : ℕ)
    → routed_on write (record_of t) store offset len ≡ locate_result (routed write t store offset len)
unfolding routed_on given
on_record_routed write t store offset len = rw (table_back t)

-- the table of a table's record
table_of_record_lem : (t : Table) → table_of_record (record_of t) ≡ t
unfolding table_of_record
table_of_record_lem t = rw (table_back t)

-- ---- lists of calls

-- what is kept of a model
abbrev keep : Model → TableRecord
keep M = record_of (table_of last_byte M)

pub records_meet_demand_3 : Demand3 table_of_record empty_record (rights_and_slots last_byte) event_on_record
unfolding left_by
records_meet_demand_3 =
    demand_3 table_of_record empty_record plain_lawful event_on_record keep (λ M. table_of_record_lem (table_of last_byte M)) (ap record_of (start_table last_byte))
    (λ e M f v h. on_record e _ _ ∙ ap recorded (step_met e M f v))

pub record_left : (es : List Event) → Each Fits es → kept_left event_on_record es empty_record (replicate 32768 0) ≡ keep (run (rights_and_slots last_byte) es start)
unfolding left_by
record_left =
    kept_left_lem table_of_record empty_record plain_lawful event_on_record keep (λ M. table_of_record_lem (table_of last_byte M)) (ap record_of (start_table last_byte))
    (λ e M f v h. on_record e _ _ ∙ ap recorded (step_met e M f v))
