use mathlib.Core.Path.{ap}
use native.Mathlib.Omega.{arith}
use lib.ListN.{length}
use Rattle.lists.proofs.Steps.{step-ends}
use Rattle.lists.proofs.union_length.Goals as goal

pub returns : goal.returns
returns c = omega (arith, ap length (step-ends c.args.a.now c.args.b.now c.loop-i.i c.loop-i.j (omega arith) (omega arith)))
