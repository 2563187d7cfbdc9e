-- `statistics::encode::put_statistics` meets its contract. The loop's invariant: the records left decide, what is left to be stored over the
-- bytes now is what was to be stored over the zeros, and there is room for it.
use Rattle.std.proofs.Common.{◌≤◌, ◌<◌, length, take, refl, sym, ◌∙◌, arith}
use Rattle.std.proofs.lemmas.Grind.{common_steps}
use Rattle.base.specs.Answer.{given}
use Rattle.statistics.proofs.EncodeLaws.{all_allowed, allowed_lengths, bytes_none, checked_next, checked_none, none_left, one_refused, record_stored, records_left, refused_as_said, stored_as_said, too_many}
use Rattle.statistics.proofs.PutLaws.{put_number}
use lib.Seq.{length-take-le}
use Rattle.statistics.proofs.encode.put_statistics.Goals as goal

pub returns-then-count-gt-MOST_STATISTICS : goal.returns-then-count-gt-MOST_STATISTICS
returns-then-count-gt-MOST_STATISTICS c =
    (refused_as_said _ 8 (too_many c.args.count c.args.records.now c.if-count-gt-MOST_STATISTICS.true), tt)

pub loop-r-init : goal.loop-r-init
loop-r-init c =
    let n = c.args.count in
    let rs = c.args.records.now in
    let few : n ≤ length rs = omega arith in (
      c.if-count-gt-MOST_STATISTICS.false,
      length-take-le n rs few,
      omega (arith, c.put_be4.auto.buf),
      omega arith,
      refl,
      rw (← c.requires) (records_left n rs _ _ few (put_number 4 n 4 c.put_be4.ensures refl (omega arith))),
    )

pub returns-in_err-check_statistic : goal.returns-in_err-check_statistic
unfolding given
returns-in_err-check_statistic c =
    let l = c.loop-r in
    let n = c.args.count in
    let rs = c.args.records.now in
    let bad = l.invariant.4 ∙ checked_next (take n rs) l.r-index _ _ (omega (arith, l.invariant.1)) c.in_err-check_statistic.ensures in
    let all = refused_as_said _ _ (one_refused n rs _ l.invariant.0 bad) in
    grind (arith, common_steps, all)

pub put_statistic-p-requires : goal.put_statistic-p-requires
put_statistic-p-requires c =
    let l = c.loop-r in (
      allowed_lengths _ _ (sym c.in_ok-check_statistic.ensures),
      omega (arith, l.invariant.0, l.invariant.1, l.invariant.2, l.invariant.3),
    )

pub loop-r-preserved : goal.loop-r-preserved
unfolding given
loop-r-preserved c =
    let l = c.loop-r in
    let rs = take c.args.count c.args.records.now in
    let h : l.r-index < length rs = omega arith in (
      l.invariant.0,
      l.invariant.1,
      c.put_statistic-p.auto.out ∙ l.invariant.2,
      omega (arith, c.put_statistic-p.ensures.1, l.invariant.3),
      l.invariant.4 ∙ checked_next rs l.r-index _ _ h c.in_ok-check_statistic.ensures,
      record_stored rs l.r-index _ h l.invariant.5 c.put_statistic-p.ensures.0,
    )

pub returns : goal.returns
returns c =
    let l = c.loop-r in
    let n = c.args.count in
    let rs = c.args.records.now in
    let end : length (take n rs) ≤ l.r-index = omega arith in
    stored_as_said _ _ _ _ (none_left (rw (bytes_none (take n rs) l.r-index end) at l.invariant.5)) (omega (arith, l.invariant.0, l.invariant.1, l.invariant.3, end))
    (all_allowed n rs l.invariant.0 (l.invariant.4 ∙ checked_none (take n rs) l.r-index end))
