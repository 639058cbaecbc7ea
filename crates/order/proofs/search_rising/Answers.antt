use mathlib.Core.Path.{◌≡◌, sym, ◌∙◌}
use native.Mathlib.Omega.{arith}
use Prim.Native.Nat.{◌*◌, ◌+◌}
use lib.ListN.{length}
use Rattle.seek.proofs.Searches.{run-over}
use Rattle.paper.specs.Limits.{table_block}
use Rattle.order.specs.Order.{stops, stops_at}
use Rattle.order.proofs.Blocks.{run-found, run-passed}
use Rattle.order.proofs.search_rising.Goals as goal

pub returns-in-Some : goal.returns-in-Some
returns-in-Some c =
    let found = run-found (stops c.args.sought) c.args.table.now (c.loop-block.block * table_block) c.args.to (omega arith) c.requires.to_in_bounds c.hold.result c.hold.ensures c.rise_block.result c.rise_block.ensures c.in-Some.place c.in-Some.is in
    (found.0 ∙ sym c.loop-block.invariant, omega arith)

pub loop-block-preserved : goal.loop-block-preserved
loop-block-preserved c =
    let next : (c.loop-block.block + 1) * table_block ≡ c.loop-block.block * table_block + table_block = omega arith in
    c.loop-block.invariant
    ∙ rw next (run-passed (stops c.args.sought) c.args.table.now (c.loop-block.block * table_block) c.args.to (omega arith) c.requires.to_in_bounds c.hold.result c.hold.ensures c.rise_block.result c.rise_block.ensures c.in_default.not-Some)

pub returns : goal.returns
returns c =
    c.loop-block.invariant ∙ run-over (stops_at c.args.table.now c.args.sought) (length c.args.table.now) (c.loop-block.block * table_block) c.args.to (omega arith)
