-- `report::body::read_statistics` meets its contract: the reports, the statistics, the end.
use Rattle.std.proofs.Common.{sym, ap}
use Rattle.base.specs.Answer.{accepted}
use Rattle.report.proofs.ReportLaws.{body_accepted, bytes_left_over, reports_refuse, statistics_answer_accepted, statistics_answer_refused, statistics_of, statistics_of_refused, statistics_refuse}
use Rattle.report.specs.Reports.{statistics_body}
use Rattle.statistics.proofs.StatisticStepLaws.{list_read, list_refused}
use Rattle.xdr.proofs.EndLaws.{end_was_read, end_was_refused}
use Rattle.xdr.proofs.Steps.{by_case}
use Rattle.xdr.specs.Answers.{parsed_of_list}
use Rattle.report.proofs.body.read_statistics.Goals as goal

pub returns-in-Err : goal.returns-in-Err
returns-in-Err c =
    let s = c.args.s.now in
    let n = end_was_refused _ _ (sym c.in-Err.ensures) in
    statistics_answer_refused _ _ _ _ (statistics_of_refused s _ (reports_refuse s _ n)) c.refused_statistics.ensures

pub returns-in-Err-answer : goal.returns-in-Err-answer
returns-in-Err-answer c =
    let s = c.args.s.now in
    let a = end_was_read _ _ (sym c.in-Ok.ensures) in
    let list = c.read_list-list in
    let bad = list_refused s _ _ (by_case (parsed_of_list list.result.entries) list.ensures.0 c.in-Err-answer.is) in
    statistics_answer_refused _ _ _ _ (statistics_of_refused s _ (statistics_refuse s a.0 _ _ a.1 bad))
    c.refused_statistics-in-Err-answer.ensures

pub returns-in-Ok-2 : goal.returns-in-Ok-2
returns-in-Ok-2 c =
    let s = c.args.s.now in
    let a = end_was_read _ _ (sym c.in-Ok.ensures) in
    let list = c.read_list-list in
    let m = list_read s _ _ _ _ (by_case (parsed_of_list list.result.entries) list.ensures.0 c.in-Ok-answer.is) in
    statistics_answer_refused _ 2 _ _
    (statistics_of_refused s 2 (bytes_left_over s a.0 _ m.members _ a.1 m.were c.if-end-s.false))
    c.refused_statistics-in-Ok-2.ensures

pub returns-in-Ok-answer : goal.returns-in-Ok-answer
returns-in-Ok-answer c =
    let s = c.args.s.now in
    let a = end_was_read _ _ (sym c.in-Ok.ensures) in
    let list = c.read_list-list in
    let m = list_read s _ _ _ _ (by_case (parsed_of_list list.result.entries) list.ensures.0 c.in-Ok-answer.is) in
    statistics_answer_accepted (statistics_body s) m.members _ _
    (statistics_of s _ (body_accepted s a.0 _ m.members _ a.1 m.were c.if-end-s.true))
    (ap accepted m.count, m.all)
