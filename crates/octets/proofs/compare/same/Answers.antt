-- `octets::compare::same` meets its contract. The loop's invariant: the blocks passed are equal, so what is left decides.
use Prim.Native.Nat.{◌/◌}
use Rattle.octets.proofs.SameLaws.{pair_first}
use Rattle.std.proofs.lemmas.List.{length_push}
use Rattle.std.proofs.lemmas.Slice.Zip.{zip_turn}
use Rattle.std.specs.Simd.{first_chunks}
use lib.ListN.{length}
use mathlib.Core.Path.{sym, ◌∙◌}
use Rattle.octets.proofs.compare.same.Goals as goal

pub returns-then-not-same_run : goal.returns-then-not-same_run
returns-then-not-same_run c =
    let s = c.args.s.now in
    let t = c.args.t.now in
    let l = c.loop-block in
    let w = zip_turn (first_chunks 256 (length s / 256) s) (first_chunks 256 (length t / 256) t) l.yielded c.into_iter-block-iterator.result l.block-iterator c.next.new.self c.next.result (cc) (cc) l.yielded_by _ c.in-Some.is c.next.ensures.steps in
    rw (l.invariant.1, pair_first 256 s t (length l.yielded) _ _ l.invariant.0 w, sym c.same_run.ensures ∙ c.if-not-same_run.true)

pub loop-block-preserved : goal.loop-block-preserved
loop-block-preserved c =
    let s = c.args.s.now in
    let t = c.args.t.now in
    let l = c.loop-block in
    let w = zip_turn (first_chunks 256 (length s / 256) s) (first_chunks 256 (length t / 256) t) l.yielded c.into_iter-block-iterator.result l.block-iterator c.next.new.self c.next.result (cc) (cc) l.yielded_by _ c.in-Some.is c.next.ensures.steps in
    (l.invariant.0, rw (length_push l.yielded (c.in-Some.block, c.in-Some.other), l.invariant.1, pair_first 256 s t (length l.yielded) _ _ l.invariant.0 w, sym c.same_run.ensures ∙ c.if-not-same_run.false))
