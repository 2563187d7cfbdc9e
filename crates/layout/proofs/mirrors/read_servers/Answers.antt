-- `layout::mirrors::read_servers` meets its contract. The loop's invariant: the servers left, stored over the table now, are all of them stored
-- over the table at the start; and the cursor is inside the bytes, so that a start fits its entry.
use Rattle.std.proofs.Common.{rules, ◌≡◌, Err, ◌+◌, ◌-◌, length, length-set, sym, ◌∙◌, arith}
use Rattle.std.proofs.lemmas.Grind.{common_steps}
use Rattle.layout.proofs.StartLaws.{servers_next, servers_none, servers_refused}
use Rattle.server.proofs.ServerLaws.{server_read}
use Rattle.layout.proofs.mirrors.read_servers.Goals as goal

pub returns-in_err-e : goal.returns-in_err-e
returns-in_err-e c =
    let l = c.loop-start in
    let e : c.from_residual.result ≡ Err c.in_err-e.field-0.0 = search rules in
    rw e (sym (l.invariant.1 ∙ servers_refused (length l.row - l.start-index) l.start-index c.args.s.now l.d.at l.row _ (omega arith) (sym c.in_err-e.ensures)))

pub loop-start-preserved : goal.loop-start-preserved
loop-start-preserved c =
    let l = c.loop-start in
    let left : length l.row - (l.start-index + 1) ≡ length l.row - l.start-index - 1 = omega arith in
    let v = server_read c.args.s.now l.d.at _ _ (sym c.in_ok-e.ensures) in (
      v.within,
      rw (length-set, left)
          (l.invariant.1
          ∙ servers_next (length l.row - l.start-index) l.start-index c.args.s.now l.d.at l.row _ _ (omega arith) (sym c.in_ok-e.ensures) v.device),
    )

pub returns : goal.returns
returns c = grind (arith, common_steps, servers_none)
