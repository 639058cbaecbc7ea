-- The loop's invariant: the entries counted and those of the union still to come are all of its entries.
use Prim.Native.Nat.{◌≤◌, ◌-◌, ◌+◌}
use mathlib.Core.Path.{◌≡◌}
use lib.ListN.{length, drop}
use Rattle.lists.specs.Union.{union}
use Rattle.lists.proofs.union_length.Given as goal

abbrev pub invariant-loop-i : goal.invariant-loop-i
invariant-loop-i l =
    (l.i ≤ length l.a) × (l.j ≤ length l.b) × (l.count ≤ l.i + l.j) × (length (union l.a l.b) ≡ l.count + length (union (drop l.i l.a) (drop l.j l.b)))

abbrev pub decreases-loop-i : goal.decreases-loop-i
decreases-loop-i l = length l.a + length l.b - (l.i + l.j)
