-- `server::handles::skip_handles` meets its contract. The loop's invariant: what is left to skip ends where all of it does.
use Rattle.std.proofs.Common.{◌≡◌, ◌+◌, ◌-◌, sym, ◌∙◌, arith}
use Rattle.std.proofs.lemmas.Grind.{common_steps}
use Rattle.server.specs.Servers.{handles_at}
use Rattle.xdr.proofs.EndLaws.{first_refuses, none_end, others_end}
use Rattle.xdr.specs.Items.{opaque_at}
use Rattle.server.proofs.handles.skip_handles.Goals as goal

pub returns-in_err-e : goal.returns-in_err-e
unfolding handles_at
returns-in_err-e c = grind (arith, common_steps, first_refuses)

pub loop-preserved : goal.loop-preserved
unfolding handles_at
loop-preserved c =
    let l = c.loop in
    let left : c.args.n - (l.counter + 1) ≡ c.args.n - l.counter - 1 = omega arith in
    rw left (l.invariant ∙ others_end (opaque_at 1 128) (c.args.n - l.counter) c.args.s.now l.d.at _ _ (omega arith) (sym c.in_ok-e.ensures))

pub returns : goal.returns
unfolding handles_at
returns c = grind (arith, common_steps, none_end)
