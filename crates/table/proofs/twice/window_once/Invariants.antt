-- The loop's invariant: the marks are those of the places passed, each of which names its block first, and the numbers beyond the window stand.
use Prim.Native.Nat.{ℕ, ◌<◌}
use mathlib.Core.Path.{◌≡◌}
use mathlib.Core.Bool.{true}
use lib.ListN.{drop}
use Rattle.table.specs.Steps.{first_in}
use Rattle.table.proofs.Marking.{Marked}
use Rattle.table.proofs.twice.window_once.Given as goal

abbrev pub invariant-loop-word : goal.invariant-loop-word
invariant-loop-word l =
    Marked l.from l.count l.words l.word-index l.scratch
    × (drop l.count l.scratch ≡ drop l.count l.initial.scratch)
    × ((k : ℕ) → k < l.word-index → first_in l.from l.count l.words k ≡ true)
