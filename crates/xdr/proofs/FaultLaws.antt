-- Laws of the fault of an answer: the number in what was parsed is that in the answer.
use mathlib.Core.Path.{◌≡◌, refl}
use Rattle.std.specs.Prelude.{Result, Ok, Err}
use Rattle.base.specs.Answer.{refusal_in}
use Rattle.base.specs.Results.{answer_of}
use Rattle.base.specs.declared.refusal.Fault.{Fault}
use Rattle.xdr.specs.Answers.{parsed_of, parsed_of_end}
use Rattle.xdr.specs.Parsed.{fault_in}
use Rattle.xdr.specs.declared.Cursor.{Cursor}

pub parsed_fault : {A : Type 0} (r : Result (A × Cursor) Fault) → fault_in (parsed_of r) ≡ refusal_in (answer_of r)
parsed_fault (Ok (a, c)) = refl
parsed_fault (Err e) = refl

pub end_fault : (r : Result Cursor Fault) → fault_in (parsed_of_end r) ≡ refusal_in (answer_of r)
end_fault (Ok c) = refl
end_fault (Err e) = refl
