-- The loop's invariant: no copy before the one that is looked at says a size.
use Prim.Native.Nat.{◌-◌}
use Rattle.mode.proofs.Found.{Tried}
use Rattle.mode.proofs.mode_of.Given as goal

abbrev pub invariant-loop-xbn : goal.invariant-loop-xbn
invariant-loop-xbn l = Tried l.images l.apart l.xbn

abbrev pub decreases-loop-xbn : goal.decreases-loop-xbn
decreases-loop-xbn l = l.most - l.xbn
