-- The loop's invariant: the walk goes right, and what is counted and what is left of each list are its whole length.
use Prim.Native.Nat.{◌≤◌, ◌-◌, ◌+◌}
use mathlib.Core.Path.{◌≡◌}
use lib.ListN.{length}
use Rattle.format.specs.Steps.{grown_of, listed_of, grown_left, listed_left, Walks}
use Rattle.format.proofs.walk.Merge.count.Given as goal

abbrev pub invariant-loop-at : goal.invariant-loop-at
invariant-loop-at l =
    Walks l.self.over l.self.p.now l.self.g.now l.self.d.now l.at
    × (l.grown ≤ l.at.p + l.at.g + l.at.d)
    × (l.listed ≤ l.at.p + l.at.g + l.at.d)
    × (length (grown_of l.self.over l.self.p.now l.self.g.now l.self.d.now) ≡ l.grown + length (grown_left l.self.over l.self.p.now l.self.g.now l.self.d.now l.at))
    × (length (listed_of l.self.over l.self.takes l.self.p.now l.self.g.now l.self.d.now) ≡ l.listed + length (listed_left l.self.over l.self.takes l.self.p.now l.self.g.now l.self.d.now l.at))

abbrev pub decreases-loop-at : goal.decreases-loop-at
decreases-loop-at l = length l.self.p.now + length l.self.g.now + length l.self.d.now - (l.at.p + l.at.g + l.at.d)
