-- What the calls over records of plain numbers make of an event and of an I/O request: the core's own definitions, on
-- the table that the record stands for.
use Rattle.std.specs.Prelude.{ℕ, Bool, List}
use Rattle.base.specs.Answer.{Answer, accepted, refused, given}
use Rattle.base.specs.Iomodes.{number_of_iomode}
use Rattle.segments.specs.Segments.{empty_table}
use Rattle.segments.specs.declared.Table.{Table}
use Rattle.abi_table.specs.TableRecords.{record_of, table_in}
use Rattle.abi_table.specs.declared.types.TableRecord.{TableRecord}
use Rattle.model.specs.Model.{Event}
use Rattle.model.specs.Claim.{CallResult}
use Rattle.events.specs.Events.{event_result}
use Rattle.route.specs.Routes.{routed}
use Rattle.route.specs.declared.piece.Piece.{Piece}
use Rattle.basilothyn.specs.declared.io.LocateResult.{LocateResult}
use Rattle.basilothyn.specs.declared.event.EventResult.{EventResult}

-- ---- events

abbrev pub empty_record : TableRecord
empty_record = record_of empty_table

-- the table of an answer; t where there is none
abbrev pub table_or : Table → Answer Table → Table
table_or t (accepted u) = u
table_or t (refused n) = t

-- the table that a record stands for; a record that stands for none is taken for empty
unfoldable pub table_of_record : TableRecord → Table
table_of_record r = table_or empty_table (table_in r)

abbrev pub record_result_of : EventResult → List ℕ → CallResult TableRecord
record_result_of r store = record { answer = r.refusal; kept = r.table; store = store }

abbrev pub recorded : CallResult Table → CallResult TableRecord
recorded l = record { answer = l.answer; kept = record_of l.kept; store = l.store }

-- a record that is no table is given back as it is
abbrev pub event_on_decoded : Answer Table → Event → TableRecord → List ℕ → CallResult TableRecord
event_on_decoded (accepted t) e r store = recorded (event_result e t store)
event_on_decoded (refused n) e r store = record { answer = n; kept = r; store = store }

unfoldable pub event_on_record : Event → TableRecord → List ℕ → CallResult TableRecord
event_on_record e r store = event_on_decoded (table_in r) e r store

-- ---- where an I/O goes

-- all else is 0 after a refusal
unfoldable pub locate_result : Answer Piece → LocateResult
locate_result (accepted p) = record {
  refusal = 0;
  iomode = number_of_iomode p.iomode;
  slot = p.slot.0;
  stripe = p.stripe.0;
  offset = p.offset;
  length = p.length;
  mirrors = p.mirrors;
}
locate_result (refused n) = record {
  refusal = n;
  iomode = 0;
  slot = 0;
  stripe = 0;
  offset = 0;
  length = 0;
  mirrors = 0;
}

unfoldable pub routed_on : Bool → TableRecord → List ℕ → ℕ → ℕ → LocateResult
routed_on write r store offset len = locate_result (given (table_in r) λ t. routed write t store offset len)
