use Rattle.lists.proofs.Filling.{filled-all}
use Rattle.format.proofs.Passes.{grown-none, listed-none}
use Rattle.format.proofs.walk.Merge.fill.Goals as goal

pub returns-clause-grown_after : goal.returns-clause-grown_after
returns-clause-grown_after c = filled-all (grown-none c.args.self.over c.args.self.takes c.args.self.p.now c.args.self.g.now c.args.self.d.now c.loop-at.at c.loop-at.invariant.0 c.loop-at-test.false) c.loop-at.invariant.1

pub returns-clause-listed_after : goal.returns-clause-listed_after
returns-clause-listed_after c = filled-all (listed-none c.args.self.over c.args.self.takes c.args.self.p.now c.args.self.g.now c.args.self.d.now c.loop-at.at c.loop-at.invariant.0 c.loop-at-test.false) c.loop-at.invariant.2
