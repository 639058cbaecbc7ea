-- A size that passes its check is at most the greater of the two.
use native.Mathlib.Omega.{arith}
use Rattle.paper.proofs.Rows.{data-size-most}
use Rattle.image.proofs.DataSize.check.Goals as goal

pub invariant_of-result : goal.invariant_of-result
invariant_of-result c = let most = data-size-most c.args.size c.in_ok-check_data_size.ensures in record { fits = omega arith }
