-- `route::mirrors::mirrors_named` meets its contract: all mirrors are a power less one, one mirror is a power.
use Prim.Native.Nat.{ℕ, ◌-◌, ◌^◌}
use Rattle.route.proofs.MirrorLaws.{all_named, one_named}
use mathlib.Core.Path.{sym, ap, ◌∙◌}
use Rattle.route.proofs.mirrors.mirrors_named.Goals as goal

pub returns-then-names_all : goal.returns-then-names_all
returns-then-names_all c =
    let a = c.args in
    ap (λ (k : ℕ). k - 1) c.power.ensures.0
    ∙ sym (all_named a.write a.body.now _ a.stripe.0 (sym c.names_all.ensures ∙ c.if-names_all.true))

pub returns : goal.returns
returns c =
    let a = c.args in
    c.power-2.ensures.0
    ∙ (ap (λ (k : ℕ). 2 ^ k) c.best_mirror-m.ensures.0
    ∙ sym (one_named a.write a.body.now _ a.stripe.0 (sym c.names_all.ensures ∙ c.if-names_all.false)))
