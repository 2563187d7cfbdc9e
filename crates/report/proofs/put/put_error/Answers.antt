-- `report::put::put_error` meets its contract: the entry fits, or the buffer stays.
use Prim.Native.Nat.{ℕ, ◌+◌, ◌≤◌}
use Rattle.octets.proofs.NumberLaws.{length_be}
use Rattle.octets.proofs.StoredLaws.{stored_before, stored_then, unfit_stored}
use Rattle.octets.specs.Buffers.{stored}
use Rattle.octets.specs.Numbers.{be_bytes}
use Rattle.report.proofs.StoringLaws.{length_error}
use Rattle.report.specs.Writing.{ErrorEntry, error_bytes}
use lib.ListN.{length, length-append}
use mathlib.Core.List.{List, ◌++◌, append_assoc}
use mathlib.Core.Path.{◌≡◌, refl, sym, ap, ◌∙◌}
use native.Mathlib.Omega.{arith}
use Rattle.report.proofs.put.put_error.Goals as goal

pub returns-then-buf-at : goal.returns-then-buf-at
returns-then-buf-at c =
    let r : ErrorEntry = record { device = c.args.device.now; status = c.args.status; operation = c.args.operation } in
    sym (unfit_stored c.args.buf.now c.args.at (error_bytes r) (omega (arith, length_error r)))

pub returns-then-room-n : goal.returns-then-room-n
returns-then-room-n c =
    let r : ErrorEntry = record { device = c.args.device.now; status = c.args.status; operation = c.args.operation } in
    sym (unfit_stored c.args.buf.now c.args.at (error_bytes r) (omega (arith, length_error r)))

pub returns-then-room-n-lt8 : goal.returns-then-room-n-lt8
returns-then-room-n-lt8 c =
    let r : ErrorEntry = record { device = c.args.device.now; status = c.args.status; operation = c.args.operation } in
    sym (unfit_stored c.args.buf.now c.args.at (error_bytes r) (omega (arith, length_error r)))

pub returns : goal.returns
unfolding error_bytes
returns c =
    let l = c.args.buf.now in
    let at = c.args.at in
    let d = c.args.device.now in
    let st = be_bytes 4 c.args.status in
    let op = be_bytes 4 c.args.operation in
    let a = length_be 4 c.args.status in
    let b = length_be 4 c.args.operation in
    let e : at + length d + 4 ≡ at + length (d ++ st) = simp (length-append, a) (omega arith) in
    let f : at + length d + length st ≤ length l = omega (arith, a) in
    let g : at + length d + 4 + length op ≤ length l = omega (arith, b) in
    rw (c.put_be4-2.ensures, c.put_bytes.ensures, c.put_be4.ensures)
    (ap (λ (m : List ℕ). stored m (at + length d + 4) op) (stored_before l at (at + length d) d st refl f)
    ∙ stored_then l at (at + length d + 4) (d ++ st) op e g
    ∙ ap (stored l at) (append_assoc d st op))
