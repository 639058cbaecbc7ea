-- It adds to the block the entries that the block passes.
use native.Mathlib.Omega.{arith}
use Rattle.skip.proofs.Walks.{passes-le}
use Rattle.skip.proofs.walk.Goals as goal

pub overflow_add-result : goal.overflow_add-result
overflow_add-result c = omega (arith, c.passed.ensures, passes-le c.args.list.entries.now c.args.block)
