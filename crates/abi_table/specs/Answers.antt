-- What the answers of the record's functions say.
use Rattle.std.specs.Prelude.{Option, None, Some}
use Rattle.base.specs.Answer.{Answer, accepted, refused}

-- the value of an answer, where it is not refused
abbrev pub option_of : {A : Type 0} → Answer A → Option A
option_of (accepted a) = Some a
option_of (refused n) = None
