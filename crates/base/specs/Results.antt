-- What the code's results say: the value, or the number of the fault or refusal.
use Rattle.std.specs.Prelude.{Result, Ok, Err}
use Rattle.base.specs.Answer.{Answer, accepted, refused}
use Rattle.base.specs.Refusals.{fault_number, number_of}
use Rattle.base.specs.declared.refusal.Fault.{Fault}
use Rattle.base.specs.declared.refusal.Refusal.{Refusal}

abbrev pub answer_of : {A : Type 0} → Result A Fault → Answer A
answer_of (Ok a) = accepted a
answer_of (Err e) = refused (fault_number e)

abbrev pub answered : {A : Type 0} → Result A Refusal → Answer A
answered (Ok a) = accepted a
answered (Err e) = refused (number_of e)
