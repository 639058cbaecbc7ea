-- No block passes more entries than there are, and a rising list is passed up to the last entry that lies below the address.
use mathlib.Core.Path.{sym}
use native.Mathlib.Omega.{arith}
use borrow.Author.Tests.{lt-leb}
use Rattle.skip.specs.Walk.{passes}
use Rattle.skip.proofs.Walks.{passes-le}
use Rattle.skip.proofs.Passing.{least-told}
use Rattle.skip.proofs.passes_at_least.Goals as goal

pub returns-then-list-at : goal.returns-then-list-at
returns-then-list-at c = sym (lt-leb c.args.count (passes c.args.list.entries.now c.args.block) (omega (arith, passes-le c.args.list.entries.now c.args.block)))

pub returns : goal.returns
returns c = least-told c.args.list.entries.now c.args.block c.args.count c.args.list.rising c.if-at-eq0.false (omega arith)
