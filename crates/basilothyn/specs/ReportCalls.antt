-- What the calls that write error reports and layout returns give back.
use Rattle.std.specs.Prelude.{ℕ}
use Rattle.base.specs.Answer.{Answer, accepted, refused}
use Rattle.basilothyn.specs.declared.reports.WriteResult.{WriteResult}

-- the body's length, or the refusal's number and no length
unfoldable pub write_result : Answer ℕ → WriteResult
write_result (accepted n) = record { refusal = 0; length = n }
write_result (refused n) = record { refusal = n; length = 0 }
