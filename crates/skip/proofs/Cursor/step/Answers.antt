-- The cursor belongs, so its count is passed already, and the walk goes on from there.
use native.Mathlib.Omega.{arith}
use Rattle.paper.proofs.Kept.{accepts}
use Rattle.skip.proofs.Cursoring.{step-most, step-known, step-on, step-there}
use Rattle.skip.proofs.Walks.{passes-le}
use Rattle.skip.proofs.Cursor.step.Goals as goal

pub passed-skipped-requires-clause-from_bound : goal.passed-skipped-requires-clause-from_bound
passed-skipped-requires-clause-from_bound c = rw c.in-Ok.ensures.1 (step-known c.args.n c.args.list.now c.args.self c.in-Ok.ensures.0)

pub overflow_add-result : goal.overflow_add-result
overflow_add-result c =
    omega (arith, step-most c.args.n c.args.list.now c.args.self c.in-Ok.ensures.0, c.passed-skipped.ensures, passes-le c.in-Ok.list.entries.now c.args.self.block, c.in-Ok.list.short)

pub returns-in-Ok : goal.returns-in-Ok
returns-in-Ok c =
    let none = c.in-Ok.ensures.0 in
    let count = rw c.in-Ok.ensures.1 at c.passed-skipped.ensures in
    accepts none (step-there c.args.n c.args.list.now c.args.self none c.passed-skipped.result count)
    (step-on c.args.n c.args.list.now c.args.self none c.passed-skipped.result count)
