-- The union of the two shifts is the rotation of the definition.
use Rattle.image.specs.Code.{code_after}
use Rattle.image.proofs.Coding.{rotated-union}
use Rattle.image.proofs.code_after.Goals as goal

pub returns : goal.returns
unfolding code_after
returns c = rw (rotated-union c.args.code c.ranges.code.fits)
