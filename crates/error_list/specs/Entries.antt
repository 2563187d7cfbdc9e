-- The list of error entries, as the definition of writing takes it.
use Rattle.std.specs.Prelude.{List, map}
use Rattle.report.specs.Writing as writing
use Rattle.error_list.specs.declared.ErrorEntry.{ErrorEntry}

-- "errors of device id, status, operation"
abbrev pub entry_of : ErrorEntry → writing.ErrorEntry
entry_of e = record { device = e.device; status = e.status; operation = e.operation }

-- "The errors to be written arrive as one lent list of records"
abbrev pub entries_of : List ErrorEntry → List writing.ErrorEntry
entries_of es = map entry_of es
