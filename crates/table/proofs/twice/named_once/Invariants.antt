-- The loop's invariant: no block of the windows passed is named twice, and the numbers beyond the window stand.
use Prim.Native.Nat.{◌*◌}
use mathlib.Core.Path.{◌≡◌}
use lib.ListN.{drop}
use Rattle.table.proofs.Marking.{OnceBelow}
use Rattle.table.proofs.twice.named_once.Given as goal

abbrev pub invariant-loop-window : goal.invariant-loop-window
invariant-loop-window l =
    OnceBelow l.words (l.window * l.fn.layout.drive.spares)
    × (drop l.fn.layout.drive.spares l.scratch ≡ drop l.fn.layout.drive.spares l.initial.scratch)
