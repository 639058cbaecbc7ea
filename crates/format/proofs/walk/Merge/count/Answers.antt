use mathlib.Core.Path.{ap}
use native.Mathlib.Omega.{arith}
use lib.ListN.{length}
use Rattle.format.proofs.Passes.{grown-none, listed-none}
use Rattle.format.proofs.walk.Merge.count.Goals as goal

pub returns-clause-grown_value : goal.returns-clause-grown_value
returns-clause-grown_value c = omega (arith, c.loop-at.invariant.3, ap length (grown-none c.args.self.over c.args.self.takes c.args.self.p.now c.args.self.g.now c.args.self.d.now c.loop-at.at c.loop-at.invariant.0 c.loop-at-test.false))

pub returns-clause-listed_value : goal.returns-clause-listed_value
returns-clause-listed_value c = omega (arith, c.loop-at.invariant.4, ap length (listed-none c.args.self.over c.args.self.takes c.args.self.p.now c.args.self.g.now c.args.self.d.now c.loop-at.at c.loop-at.invariant.0 c.loop-at-test.false))
