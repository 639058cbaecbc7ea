-- The sector of a spare is one of the drive's.
use native.Mathlib.Omega.{arith}
use Rattle.layout.proofs.Sectors.{spare-below}
use Rattle.layout.proofs.Layout.spare_sector.Goals as goal

pub overflow_mul-result : goal.overflow_mul-result
overflow_mul-result c = omega (arith, spare-below c.args.self.laid c.requires)

pub overflow_add-result-3 : goal.overflow_add-result-3
overflow_add-result-3 c = omega (arith, spare-below c.args.self.laid c.requires)
