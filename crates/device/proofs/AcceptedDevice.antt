-- What holds of a device body that is accepted: one to eight versions in eight entries, and each fits.
use Prim.Native.Nat.{ℕ}
use mathlib.Core.Path.{◌≡◌, sym, ap, ◌∙◌}
use mathlib.Core.Bool.{true}
use mathlib.Core.List.{List}
use lib.Dec.{leb}
use lib.ListN.{length}
use Rattle.base.specs.Answer.{accepted}
use Rattle.base.proofs.AnswerLaws.{pick_accepted}
use Rattle.xdr.specs.Parsed.{ok}
use Rattle.xdr.proofs.Accepted.{pick_inv, then_inv, same_value, whole_read}
use Rattle.xdr.proofs.ListedLaws.{IsList, list_read}
use Rattle.device.specs.Versions.{checked_version, version_at, version_fits, blank_version}
use Rattle.device.specs.Bodies.{Device, device_at, device_body}
use Rattle.device.specs.declared.version.Version.{Version}

version_fits_lem : (s : List ℕ) (at : ℕ) (v : Version) (p : ℕ) → version_at s at ≡ ok v p → version_fits v ≡ true
unfolding version_at checked_version
version_fits_lem s at v p h =
    let r1 = then_inv _ _ v p h in
    let r2 = then_inv _ _ v p r1.rest in
    let r3 = then_inv _ _ v p r2.rest in
    let r4 = then_inv _ _ v p r3.rest in
    let r5 = then_inv _ _ v p r4.rest in
    let t = pick_inv _ _ 12 v p r5.rest in
    ap version_fits (sym (same_value t.chosen)) ∙ t.test

body_read : (s : List ℕ) (d : Device) → device_body s ≡ accepted d → device_at s 0 ≡ ok d (length s)
unfolding device_body
body_read s d h = whole_read s (device_at s 0) d (pick_accepted (leb (length s) 2048) _ 8 d h).1

pub versions_read : (s : List ℕ) (d : Device) → device_body s ≡ accepted d
    → IsList 1 8 (λ v. version_fits v ≡ true) blank_version d.count_of_versions d.versions
unfolding device_at
versions_read s d h =
    let r = then_inv _ _ d _ (body_read s d h) in
    let t = then_inv _ _ d _ r.rest in
    rw (← same_value t.rest) (list_read 1 8 version_at blank_version s _ (version_fits_lem s) r.next t.item t.next t.first)
