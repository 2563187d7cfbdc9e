-- What the answer of the layout body's reader says.
use Rattle.std.specs.Prelude.{ℕ, List, replicate, Result, Ok, Err}
use Rattle.base.specs.Limits.{most_starts}
use Rattle.base.specs.Answer.{Answer, accepted, refused}
use Rattle.base.specs.Refusals.{fault_number}
use Rattle.base.specs.declared.refusal.Fault.{Fault}
use Rattle.layout.specs.Layouts.{Layout}
use Rattle.layout.specs.declared.body.Summary.{Summary}

abbrev pub answer_of_layout : Result Summary Fault → List ℕ → Answer Layout
answer_of_layout (Ok summary) starts = accepted (record { summary = summary; starts = starts })
answer_of_layout (Err e) starts = refused (fault_number e)

-- the starts of an answer: 128 zeros after a refusal
unfoldable pub starts_in : Answer Layout → List ℕ
starts_in (accepted l) = l.starts
starts_in (refused n) = replicate most_starts 0
