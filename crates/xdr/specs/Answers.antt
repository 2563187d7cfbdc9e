-- What the readers' results say: the value and the offset after it, or the number.
use Rattle.std.specs.Prelude.{ℕ, List, Result, Ok, Err}
use Rattle.base.specs.Refusals.{fault_number}
use Rattle.base.specs.declared.refusal.Fault.{Fault}
use Rattle.xdr.specs.Parsed.{Parsed, ok, fault}
use Rattle.xdr.specs.CountedLists.{Listed}
use Rattle.xdr.specs.declared.Cursor.{Cursor}

abbrev pub parsed_of : {A : Type 0} → Result (A × Cursor) Fault → Parsed A
parsed_of (Ok (a, c)) = ok a c.at
parsed_of (Err e) = fault (fault_number e)

-- of items that are read past, the offset alone
abbrev pub parsed_of_end : Result Cursor Fault → Parsed (Unit {0})
parsed_of_end (Ok c) = ok tt c.at
parsed_of_end (Err e) = fault (fault_number e)

-- of a list, the result is the count; the entries are beside it
abbrev pub parsed_of_list : {A : Type 0} → List A → Result (ℕ × Cursor) Fault → Parsed (Listed A)
parsed_of_list l (Ok (n, c)) = ok (record { count = n; entries = l }) c.at
parsed_of_list l (Err e) = fault (fault_number e)
