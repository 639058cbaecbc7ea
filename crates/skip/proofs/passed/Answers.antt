-- An entry that is at most the address on the way to it is passed with all before it, since the list rises; one above that address is not passed, nor any after it.
use native.Mathlib.Omega.{arith}
use Rattle.skip.proofs.Walks.{passes-le}
use Rattle.skip.proofs.Passing.{passes-at-least, passes-at-most}
use Rattle.skip.proofs.passed.Goals as goal

pub loop-least-init : goal.loop-least-init
loop-least-init c = omega (arith, c.requires.from_bound, passes-le c.args.list.entries.now c.args.block)

pub loop-least-preserved : goal.loop-least-preserved
loop-least-preserved c = grind (arith, passes-at-most c.args.list.entries.now c.args.block c.loop-least.at, passes-at-least c.args.list.entries.now c.args.block c.loop-least.at c.args.list.rising)
