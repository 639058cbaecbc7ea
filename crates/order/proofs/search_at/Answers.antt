-- What the search of the held block finds, moved to where the block starts, is what the table's search of these places finds.
use native.Mathlib.Omega.{arith}
use lib.ListN.{length}
use Rattle.order.specs.Order.{stops, block_order}
use Rattle.order.proofs.Once.{block_inside}
use Rattle.order.proofs.Blocks.{block-found, block_none}
use Rattle.order.proofs.search_at.Goals as goal

pub returns-in_err-place : goal.returns-in_err-place
returns-in_err-place c =
    let table = c.args.table.now in
    rw c.from_residual.ensures
    (block_none (stops c.args.sought) table c.args.start (block_order c.args.o) (block_inside c.args.o) c.hold.result c.hold.ensures (length table) c.in_err-place.ensures)

pub returns : goal.returns
returns c =
    let table = c.args.table.now in
    let found = c.in_ok-place.ensures in (
      block-found (stops c.args.sought) table c.args.start (block_order c.args.o) (block_inside c.args.o) c.hold.result c.hold.ensures (length table) c.in_ok-place.place found.0 found.1,
      omega arith,
    )
