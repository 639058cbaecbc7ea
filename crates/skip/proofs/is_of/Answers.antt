-- The count before a block is what the block before it passes, and 0 before block 0.
use Prim.Native.Nat.{◌≤◌}
use native.Mathlib.Omega.{arith}
use borrow.Author.Tests.{le-leb}
use Rattle.skip.specs.Translation.{blocks}
use Rattle.skip.proofs.Cursoring.{count-passes}
use Rattle.skip.proofs.is_of.Goals as goal

pub returns : goal.returns
returns c =
    let h : c.args.cursor.block ≤ blocks c.args.n c.args.list.entries.now = omega (arith, c.block_count.ensures) in
    rw (le-leb _ _ h, count-passes c.args.n c.args.list.entries.now c.requires.proper c.args.cursor.block c.if-cursor-eq0.false h) c.passes_just.ensures
