-- `report::put::put_errors` meets its contract: the entries' bytes are stored as they are.
use Prim.Native.Nat.{ℕ, ◌+◌, ◌-◌, ◌*◌}
use Rattle.report.proofs.StoringLaws.{errors_stored}
use lib.ListN.{take, drop}
use mathlib.Core.Path.{◌≡◌, ap, ◌∙◌}
use native.Mathlib.Omega.{arith}
use Rattle.report.proofs.put.put_errors.Goals as goal

pub returns : goal.returns
returns c =
    let a = c.args in
    let errors = a.errors.now in
    let e : a.from + 24 * a.n - a.from ≡ 24 * a.n = omega arith in
    c.put_bytes.ensures
    ∙ errors_stored a.out.now a.at a.n errors a.from _
    (λ i. omega (arith, c.type_inv.errors i)) c.requires.0
    c.requires.1 (ap (λ (m : ℕ). take m (drop a.from errors)) e)
