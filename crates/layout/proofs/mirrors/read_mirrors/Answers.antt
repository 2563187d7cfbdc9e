-- `layout::mirrors::read_mirrors` meets its contract. The loop's invariant: the mirrors left, stored over the table now, are all after the first
-- stored over the table as the loop begins.
use Rattle.std.proofs.Common.{◌≡◌, ◌+◌, ◌-◌, ◌*◌, ◌∷◌, length, refl, sym, ◌∙◌, arith, rules}
use Rattle.std.proofs.lemmas.Grind.{common_steps}
use Rattle.layout.proofs.StartLaws.{mirrors_next, mirrors_none, mirrors_refused, part_read, part_refused, row_read, row_refused}
use Rattle.layout.proofs.StartTableLaws.{mirror_has}
use Rattle.layout.specs.Layouts.{mirror_at, mirrors_at}
use Rattle.server.specs.Servers.{server_at}
use Rattle.xdr.proofs.ManyLaws.{many_length}
use Rattle.xdr.specs.Parsed.{ok, then, many_at}
use Rattle.layout.proofs.mirrors.read_mirrors.Goals as goal

pub returns-in_err-d : goal.returns-in_err-d
unfolding mirrors_at
returns-in_err-d c =
    let a = c.args in
    let long : length a.starts.now ≡ 128 = search rules in
    let first = part_refused 0 a.servers _ (λ n. many_at server_at n a.s.now a.c.at) a.starts.now refl (omega (arith, c.requires.3)) _ (sym c.in_err-d.ensures) in
    let all = row_refused 0 (many_at server_at a.servers a.s.now a.c.at)
    (λ row p1. then (many_at (mirror_at a.servers) (a.mirrors - 1) a.s.now p1) λ others p2. ok (row ∷ others) p2) a.starts.now _ first in
    grind (arith, common_steps)

pub returns-in_err-d-2 : goal.returns-in_err-d-2
unfolding mirrors_at
returns-in_err-d-2 c =
    let a = c.args in
    let l = c.loop-m in
    let long : length a.starts.now ≡ 128 = search rules in
    let longer : length l.starts ≡ 128 = search rules in
    let head = part_read 0 a.servers _ (λ n. many_at server_at n a.s.now a.c.at) a.starts.now refl (omega (arith, c.requires.3)) _ _
    (λ vs q e. many_length server_at a.servers a.s.now a.c.at vs q e) (sym c.in_ok-d.ensures) in
    let first = row_read 0 (many_at server_at a.servers a.s.now a.c.at)
    (λ p. many_at (mirror_at a.servers) (a.mirrors - 1) a.s.now p) a.starts.now _ _ head in
    let row = part_refused (l.m * 16) a.servers _ (λ n. mirror_at n a.s.now l.d.at) l.starts (omega arith) (omega (arith, c.requires.2, c.requires.3)) _
    (sym c.in_err-d-2.ensures) in
    let here = mirrors_refused a.servers a.s.now (a.mirrors - l.m) (l.m * 16) l.d.at l.starts _ (omega arith) row in
    let all = first ∙ l.invariant.1 ∙ here in
    grind (arith, common_steps)

pub loop-m-preserved : goal.loop-m-preserved
loop-m-preserved c =
    let a = c.args in
    let l = c.loop-m in
    let longer : length l.starts ≡ 128 = search rules in
    let next : (l.m + 1) * 16 ≡ l.m * 16 + 16 = omega arith in
    let left : a.mirrors - (l.m + 1) ≡ a.mirrors - l.m - 1 = omega arith in
    let row = part_read (l.m * 16) a.servers _ (λ n. mirror_at n a.s.now l.d.at) l.starts (omega arith) (omega (arith, c.requires.2, c.requires.3)) _ _
    (λ vs q e. mirror_has a.servers a.s.now l.d.at vs q e) (sym c.in_ok-d-2.ensures) in
    let here = mirrors_next a.servers a.s.now (a.mirrors - l.m) (l.m * 16) l.d.at l.starts _ _ (omega arith) row in
    (omega arith, rw (next, left) (l.invariant.1 ∙ here))

pub returns : goal.returns
unfolding mirrors_at
returns c =
    let a = c.args in
    let l = c.loop-m in
    let long : length a.starts.now ≡ 128 = search rules in
    let head = part_read 0 a.servers _ (λ n. many_at server_at n a.s.now a.c.at) a.starts.now refl (omega (arith, c.requires.3)) _ _
    (λ vs q e. many_length server_at a.servers a.s.now a.c.at vs q e) (sym c.in_ok-d.ensures) in
    let first = row_read 0 (many_at server_at a.servers a.s.now a.c.at)
    (λ p. many_at (mirror_at a.servers) (a.mirrors - 1) a.s.now p) a.starts.now _ _ head in
    let none = mirrors_none a.servers a.s.now (a.mirrors - l.m) (l.m * 16) l.d.at l.starts (omega arith) in
    sym (first ∙ l.invariant.1 ∙ none)
