-- The room is filled from its start, and each number is so much more than the one before.
use native.Mathlib.Omega.{arith}
use Rattle.comparing.proofs.Spreads.{spreading-none, spreading-more}
use Rattle.comparing.proofs.spread.Goals as goal

pub loop-place-init : goal.loop-place-init
loop-place-init c = spreading-none _ _ _

pub loop-place-preserved : goal.loop-place-preserved
loop-place-preserved c = spreading-more c.loop-place.invariant (omega (arith, c.loop-place.invariant.filled.same_length))
