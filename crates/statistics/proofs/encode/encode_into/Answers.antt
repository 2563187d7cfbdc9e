-- `statistics::encode::encode_into` meets its contract: after a refusal each byte is 0.
use Rattle.std.proofs.Common.{sym, ◌∙◌}
use Rattle.statistics.proofs.EncodeLaws.{blank_after}
use Rattle.statistics.proofs.encode.encode_into.Goals as goal

pub returns-then-is_err : goal.returns-then-is_err
returns-then-is_err c =
    let e = c.put_statistics-answer.ensures.0 in
    (e, blank_after _ _ (sym c.is_err.ensures.value ∙ c.if-is_err.true) e)
