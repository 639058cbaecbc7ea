-- A track of so many sectors of either size fits 32 bits.
use native.Mathlib.Omega.{arith}
use Rattle.paper.proofs.Rows.{data-size-most}
use Rattle.reading.proofs.Images.check.Goals as goal

pub invariant_of-result : goal.invariant_of-result
invariant_of-result c = let most = data-size-most c.args.size c.in_ok-check_data_size.ensures in record { fits = omega arith }
