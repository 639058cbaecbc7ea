-- The loop's invariant: the count lies from `least` to `most`, and the entry to look at in the lower half of what is left.
use Prim.Native.Nat.{◌≤◌, ◌-◌, ◌+◌, ◌*◌}
use lib.ListN.{length}
use Rattle.skip.specs.Walk.{passes}
use Rattle.skip.proofs.passed.Given as goal

abbrev pub invariant-loop-least : goal.invariant-loop-least
invariant-loop-least l = (l.least ≤ passes l.list.entries.now l.block) × (passes l.list.entries.now l.block ≤ l.most) × (l.most ≤ length l.list.entries.now) × (l.least ≤ l.at) × (2 * l.at ≤ l.least + l.most)

abbrev pub decreases-loop-least : goal.decreases-loop-least
decreases-loop-least l = l.most - l.least
