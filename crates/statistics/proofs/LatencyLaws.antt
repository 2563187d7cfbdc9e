-- Laws of latencies: their five numbers are there together, or the bytes run out.
use Prim.Native.Nat.{ℕ, ◌+◌, ◌≤◌, ◌<◌}
use mathlib.Core.Path.{◌≡◌, refl}
use mathlib.Core.Bool.{Bool, true, false}
use mathlib.Core.List.{List}
use native.Mathlib.Omega.{arith}
use borrow.Author.Tests.{leb-false, leb-true}
use lib.Dec.{leb}
use lib.ListN.{length}
use Rattle.octets.specs.Numbers.{be_at, bytes_from}
use Rattle.octets.proofs.NumberLaws.{length_bytes}
use Rattle.octets.proofs.BytesAtLaws.{bytes_are}
use Rattle.xdr.specs.Parsed.{Parsed, ok, fault, then}
use Rattle.xdr.specs.Items.{bytes_at, num_at}
use Rattle.xdr.proofs.ItemsAtLaws.{bytes_stand}
use Rattle.xdr.specs.declared.Part.{Part}
use Rattle.xdr.proofs.Accepted.{bytes_read}
use Rattle.xdr.proofs.ItemLaws.{bytes_short, num_short, num_there}
use Rattle.statistics.specs.Latencies.{latency_at, latency_from, time_at}
use Rattle.statistics.specs.declared.Latency.{Latency}

-- a number, and what follows it, where the bytes run out in either
runs_out : {B : Type 0} (k : ℕ) (s : List ℕ) (at : ℕ) (f : ℕ → ℕ → Parsed B) → (at + k ≤ length s → f (be_at k s at) (at + k) ≡ fault 1)
    → then (num_at k s at) f ≡ fault 1
unfolding then
runs_out k s at f h = go (leb (at + k) (length s)) refl where
  go : (t : Bool) → leb (at + k) (length s) ≡ t → then (num_at k s at) f ≡ fault 1
  go true e = let r : at + k ≤ length s = leb-true _ _ e in rw (num_there k s at r) (h r)
  go false e = rw (num_short k s at (leb-false _ _ e))

module _ {B : Type 0} (s : List ℕ) (at : ℕ) (f : ℕ → ℕ → ℕ → ℕ → ℕ → ℕ → Parsed B) where
  abbrev five : Parsed B
  five =
      then (num_at 8 s at) λ a p1.
      then (num_at 8 s p1) λ b p2.
      then (num_at 8 s p2) λ c p3.
      then (num_at 8 s p3) λ d p4.
      then (num_at 8 s p4) λ e p5.
      f a b c d e p5

  five_short : length s < at + 40 → five ≡ fault 1
  five_short h =
      runs_out 8 s at _ λ r1. runs_out 8 s (at + 8) _ λ r2. runs_out 8 s (at + 8 + 8) _ λ r3. runs_out 8 s (at + 8 + 8 + 8) _ λ r4.
      runs_out 8 s (at + 8 + 8 + 8 + 8) _ λ r5. absurd (omega (arith, h, r5))

  five_there : at + 40 ≤ length s → five ≡ f (be_at 8 s at) (be_at 8 s (at + 8)) (be_at 8 s (at + 16)) (be_at 8 s (at + 24)) (be_at 8 s (at + 32)) (at + 40)
  unfolding then
  five_there h =
      let e2 : at + 8 + 8 ≡ at + 16 = omega arith in
      let e3 : at + 16 + 8 ≡ at + 24 = omega arith in
      let e4 : at + 24 + 8 ≡ at + 32 = omega arith in
      let e5 : at + 32 + 8 ≡ at + 40 = omega arith in
      rw (
        num_there 8 s at (omega (arith, h)),
        num_there 8 s (at + 8) (omega (arith, h)),
        e2,
        num_there 8 s (at + 16) (omega (arith, h)),
        e3,
        num_there 8 s (at + 24) (omega (arith, h)),
        e4,
        num_there 8 s (at + 32) (omega (arith, h)),
        e5,
      )

-- a latency whose numbers are read as one item of 40 bytes
pub latency_by_counters : (s : List ℕ) (at : ℕ)
    → latency_at s at ≡ then (bytes_at 40 s at) (λ part p. then (time_at s p) λ busy q. then (time_at s q) λ completion z. ok (latency_from s at busy completion) z)
unfolding latency_at then
latency_by_counters s at = go (leb (at + 40) (length s)) refl where
  rest : ℕ → ℕ → ℕ → ℕ → ℕ → ℕ → Parsed Latency
  rest a b c d e p =
      then (time_at s p) λ busy q.
      then (time_at s q) λ completion z.
      ok (record {
        ops_requested = a;
        bytes_requested = b;
        ops_completed = c;
        bytes_completed = d;
        bytes_not_delivered = e;
        busy = busy;
        completion = completion;
      }) z

  go : (t : Bool) → leb (at + 40) (length s) ≡ t
      → five s at rest ≡ then (bytes_at 40 s at) (λ part p. then (time_at s p) λ busy q. then (time_at s q) λ completion z. ok (latency_from s at busy completion) z)
  go true e =
      let r : at + 40 ≤ length s = leb-true _ _ e in
      rw (bytes_stand 40 (bytes_from 40 s at) s at (length_bytes 40 s at r) refl (bytes_are 40 s at r)) (five_there s at rest r)
  go false e = let h : length s < at + 40 = leb-false _ _ e in rw (bytes_short 40 s at (omega (arith, h))) (five_short s at rest h)

-- numbers that were read as one item are there
pub counters_there : (s : List ℕ) (at : ℕ) (v : Part) (p : ℕ) → bytes_at 40 s at ≡ ok v p → at + 40 ≤ length s
counters_there s at v p h = let w = bytes_read 40 s at v p h in omega (arith, w.end, w.within)
