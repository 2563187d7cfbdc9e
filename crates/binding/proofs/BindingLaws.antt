-- Laws of the choice of a version entry.
use Prim.Native.Nat.{ℕ, suc, ◌+◌, ◌≤◌, ◌<◌}
use mathlib.Core.Path.{◌≡◌}
use mathlib.Core.Bool.{Bool, true, false}
use mathlib.Core.List.{List, [], ◌∷◌}
use native.Mathlib.Omega.{arith}
use lib.ListN.{length, drop, get_or, take, length-take, drop_of_length-le}
use lib.Seq.{drop-cons}
use Rattle.base.specs.Answer.{accepted, refused, pick}
use Rattle.device.specs.Versions.{blank_version}
use Rattle.device.specs.declared.version.Version.{Version}
use Rattle.binding.specs.Bindings.{chosen_from, supports}

pub chosen_next : (set i : ℕ) (vs : List Version) → i < length vs
    → chosen_from set i (drop i vs) ≡ pick (supports set (get_or vs i blank_version)) (accepted i) (chosen_from set (i + 1) (drop (suc i) vs))
unfolding chosen_from
chosen_next set i vs h = rw (drop-cons vs i blank_version h)

pub chosen_none : (set i : ℕ) (vs : List Version) → length vs ≤ i → chosen_from set i (drop i vs) ≡ refused 14
unfolding chosen_from
chosen_none set i vs h = rw (drop_of_length-le vs h)

-- an entry that was chosen is one of those looked at
chosen_within : (set i : ℕ) (vs : List Version) (k : ℕ) → chosen_from set i vs ≡ accepted k → k < i + length vs
unfolding chosen_from pick
chosen_within set i [] k e = let z : ◌≡◌ {A = ℕ} 0 1 = cc in absurd (omega arith)
chosen_within set i (v ∷ vs) k e = go (supports set v) e (chosen_within set (i + 1) vs k) where
  go : (t : Bool) → pick t (accepted i) (chosen_from set (i + 1) vs) ≡ accepted k → (chosen_from set (i + 1) vs ≡ accepted k → k < i + 1 + length vs)
      → k < i + suc (length vs)
  go true h rest = let f : i ≡ k = cc in omega arith
  go false h rest = let f = rest h in omega arith

pub chosen_below : (set n : ℕ) (vs : List Version) (k : ℕ) → chosen_from set 0 (take n vs) ≡ accepted k → k < n
chosen_below set n vs k e =
    let h : k < 0 + length (take n vs) = chosen_within set 0 (take n vs) k e in
    let l : length (take n vs) ≤ n = simp length-take (omega arith) in
    omega arith
