-- Laws of one slot: how long it is, and that length, kind and body are read back from it, with zeros after.
use Prim.Native.Nat.{ℕ, ◌+◌, ◌-◌, ◌≤◌, ◌<◌}
use mathlib.Core.Path.{◌≡◌, refl, sym, ap, ◌∙◌}
use mathlib.Core.Bool.{true}
use mathlib.Core.List.{List, ◌++◌, append_assoc}
use native.Mathlib.Omega.{arith}
use borrow.Author.Tests.{le-leb}
use lib.ListN.{length, drop, replicate, length-append, length-replicate}
use lib.Seq.{take_at, drop_at}
use Rattle.base.specs.Answer.{pick}
use Rattle.octets.specs.Numbers.{all_zero, le_at, le_bytes}
use Rattle.octets.proofs.NumberLaws.{le_round, length_le}
use Rattle.store.specs.Store.{Body, empty, holds, body_in, kind_in, length_in, slot_bytes}
use Rattle.octets.proofs.ZeroLaws.{zero_replicate}

length_parts : (b : Body) → length (slot_bytes (holds b)) ≡ 6 + (length b + (4090 - length b))
unfolding slot_bytes
length_parts b =
    let r : length (replicate {A = ℕ} (4090 - length b) 0) ≡ 4090 - length b = length-replicate (4090 - length b) 0 in
    simp (length-append, length_le 4 (length b), length_le 2 4) (omega arith)

pub length_slot : (b : Body) → length b ≤ 4090 → length (slot_bytes (holds b)) ≡ 4096
length_slot b h = omega (arith, length_parts b)

pub length_long : (b : Body) → 4090 < length b → 4096 < length (slot_bytes (holds b))
length_long b h = omega (arith, length_parts b)

pub length_empty : length (slot_bytes empty) ≡ 4096
unfolding slot_bytes
length_empty = length-replicate {A = ℕ} 4096 0

-- what is after the length, and after the kind
behind_length : (b : Body) → drop 4 (slot_bytes (holds b)) ≡ le_bytes 2 4 ++ (b ++ replicate (4090 - length b) 0)
unfolding slot_bytes
behind_length b = drop_at (le_bytes 4 (length b)) (le_bytes 2 4 ++ (b ++ replicate (4090 - length b) 0)) 4 (length_le 4 (length b))

behind_kind : (b : Body) → drop 6 (slot_bytes (holds b)) ≡ b ++ replicate (4090 - length b) 0
unfolding slot_bytes
behind_kind b =
    let head = le_bytes 4 (length b) ++ le_bytes 2 4 in
    let rest : List ℕ = b ++ replicate (4090 - length b) 0 in
    let n : length head ≡ 6 = simp (length-append, length_le 4 (length b), length_le 2 4) in
    ap (drop 6) (sym (append_assoc (le_bytes 4 (length b)) (le_bytes 2 4) rest)) ∙ drop_at head rest 6 n

pub length_holds : (b : Body) → length b ≤ 4090 → length_in (slot_bytes (holds b)) ≡ length b
unfolding length_in le_at pick slot_bytes
length_holds b h =
    let e : 4 ≤ length (slot_bytes (holds b)) = omega (arith, length_slot b h) in
    rw (le-leb _ _ e, take_at (le_bytes 4 (length b)) (le_bytes 2 4 ++ (b ++ replicate (4090 - length b) 0)) 4 (length_le 4 (length b)))
    (le_round 4 (length b) (omega arith))

pub kind_holds : (b : Body) → kind_in (slot_bytes (holds b)) ≡ 4
unfolding kind_in le_at pick
kind_holds b =
    let e : 6 ≤ length (slot_bytes (holds b)) = omega (arith, length_parts b) in
    rw (le-leb _ _ e, behind_length b, take_at (le_bytes 2 4) (b ++ replicate (4090 - length b) 0) 2 (length_le 2 4))
    (le_round 2 4 (omega arith))

pub body_back : (b : Body) → length b ≤ 4090 → body_in (slot_bytes (holds b)) ≡ b
unfolding body_in
body_back b h = rw (length_holds b h, behind_kind b) (take_at b (replicate (4090 - length b) 0) (length b) refl)

pub zeros_after : (b : Body) → all_zero (drop (6 + length b) (slot_bytes (holds b))) ≡ true
unfolding slot_bytes
zeros_after b =
    let kind = le_bytes 2 4 in
    let head = le_bytes 4 (length b) ++ (kind ++ b) in
    let tail : List ℕ = replicate (4090 - length b) 0 in
    let n : length head ≡ 6 + length b = simp (length-append, length_le 4 (length b), length_le 2 4) (omega arith) in
    let e : le_bytes 4 (length b) ++ (kind ++ (b ++ tail)) ≡ head ++ tail =
    ap (λ (l : List ℕ). le_bytes 4 (length b) ++ l) (sym (append_assoc kind b tail)) ∙ sym (append_assoc (le_bytes 4 (length b)) (kind ++ b) tail) in
    rw (e, drop_at head tail (6 + length b) n) (zero_replicate (4090 - length b))

pub empty_zero : all_zero (slot_bytes empty) ≡ true
unfolding slot_bytes
empty_zero = zero_replicate 4096
