-- The loop's invariant: from the place that is reached on, scratch tells the next free place at or after each, the last one found is that of this place, and the numbers beyond stand.
use Prim.Native.Nat.{ℕ, ◌≤◌, ◌<◌}
use mathlib.Core.Path.{◌≡◌}
use lib.ListN.{get_or, drop}
use Rattle.holes.specs.Steps.{next_free}
use Rattle.holes.proofs.fill_next.Given as goal

abbrev pub invariant-loop-place : goal.invariant-loop-place
invariant-loop-place l =
    (l.next ≡ next_free l.table l.place)
    × ((q : ℕ) → l.place ≤ q → q < l.count → get_or l.scratch q 0 ≡ next_free l.table q)
    × (drop l.count l.scratch ≡ drop l.count l.initial.scratch)
