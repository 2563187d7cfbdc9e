-- What the answer of the layout4's reader says, and what the refusal of one is inside this crate.
use Rattle.std.specs.Prelude.{ℕ, ◌≡◌, List, replicate, Result, Ok, Err}
use Rattle.base.specs.Limits.{most_starts}
use Rattle.base.specs.Answer.{Answer, accepted, refused}
use Rattle.base.specs.Refusals.{fault_number}
use Rattle.base.specs.declared.refusal.Fault.{Fault}
use Rattle.layout.specs.declared.body.Summary.{Summary}
use Rattle.layout4.specs.Layout4s.{WholeLayout}
use Rattle.layout4.specs.declared.whole.Layout4.{Layout4}
use Rattle.layout4.specs.declared.whole.Layout4Read.{Layout4Read}

abbrev pub answer_of_layout4 : Result (Layout4 × Summary) Fault → List ℕ → Answer WholeLayout
answer_of_layout4 (Ok (l, summary)) starts =
    accepted (record { frame = l; body = record { summary = summary; starts = starts } })
answer_of_layout4 (Err e) starts = refused (fault_number e)

-- the starts of an answer: 128 zeros after a refusal
unfoldable pub starts_of_whole : Answer WholeLayout → List ℕ
starts_of_whole (accepted w) = w.body.starts
starts_of_whole (refused n) = replicate most_starts 0

-- ---- inside this crate

-- the refusal for a cause, with no start of a data server
pub record RefusedLayout4 (e : Fault) (r : Layout4Read) : Type 0 where
  pub answer : r.answer ≡ Err e
  pub starts : r.starts ≡ replicate most_starts 0
