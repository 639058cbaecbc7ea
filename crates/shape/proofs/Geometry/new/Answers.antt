-- A shape that passes its check is in its ranges.
use Rattle.shape.proofs.Exact.{shape-shows}
use Rattle.shape.proofs.Geometry.new.Goals as goal

pub invariant_of-result : goal.invariant_of-result
invariant_of-result c = record { shaped = shape-shows _ c.in_ok-check_shape.ensures }
