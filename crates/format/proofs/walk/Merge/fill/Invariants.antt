-- The loop's invariant: the walk goes right, and each room holds its list up to what is left of it.
use Prim.Native.Nat.{◌-◌, ◌+◌}
use lib.ListN.{length}
use Rattle.lists.proofs.Filling.{Filled}
use Rattle.format.specs.Steps.{grown_of, listed_of, grown_left, listed_left, Walks}
use Rattle.format.proofs.walk.Merge.fill.Given as goal

abbrev pub invariant-loop-at : goal.invariant-loop-at
invariant-loop-at l =
    Walks l.self.over l.self.p.now l.self.g.now l.self.d.now l.at
    × Filled (grown_of l.self.over l.self.p.now l.self.g.now l.self.d.now) (grown_left l.self.over l.self.p.now l.self.g.now l.self.d.now l.at) l.initial.grown l.grown l.grown_count
    × Filled (listed_of l.self.over l.self.takes l.self.p.now l.self.g.now l.self.d.now) (listed_left l.self.over l.self.takes l.self.p.now l.self.g.now l.self.d.now l.at) l.initial.listed l.listed l.listed_count

abbrev pub decreases-loop-at : goal.decreases-loop-at
decreases-loop-at l =
    length l.self.p.now + length l.self.g.now + length l.self.d.now - (l.at.p + l.at.g + l.at.d)
