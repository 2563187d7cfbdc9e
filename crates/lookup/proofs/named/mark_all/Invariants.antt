use Rattle.std.proofs.Common.{◌≡◌, ℕ, ◌<◌, length, drop, get_or, false, ◌||◌}
use Rattle.segments.specs.Segments.{any_names}
use Rattle.lookup.proofs.named.mark_all.Given as goal

abbrev pub invariant-loop-s : goal.invariant-loop-s
invariant-loop-s l =
    (length l.named ≡ 8)
    × ((i : ℕ) → i < 8 → (any_names i l.all || get_or l.initial.named i false) ≡ (any_names i (drop l.s-index l.all) || get_or l.named i false))
