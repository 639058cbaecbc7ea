-- The count before a block is what the block before it passes.
use Rattle.skip.proofs.Cursoring.{start-later}
use Rattle.skip.proofs.Cursor.start.Goals as goal

pub returns : goal.returns
returns c = (
  c.in_ok-list.ensures.0,
  start-later c.args.n c.args.list.now c.args.block c.in_ok-list.ensures.0 c.passed-skipped.result c.if-block-eq0.false (rw c.in_ok-list.ensures.1 at c.passed-skipped.ensures),
)
