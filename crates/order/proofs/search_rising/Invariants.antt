-- The loop's invariant: the search of the whole run is the search of the blocks that are left.
use Prim.Native.Nat.{◌-◌, ◌*◌}
use mathlib.Core.Path.{◌≡◌}
use lib.ListN.{length}
use Rattle.paper.specs.Limits.{table_block}
use Rattle.seek.specs.Search.{first_or, rising}
use Rattle.order.specs.Order.{stops_at}
use Rattle.order.proofs.search_rising.Given as goal

abbrev pub invariant-loop-block : goal.invariant-loop-block
invariant-loop-block l =
    first_or (length l.table) (stops_at l.table l.sought) (rising l.from (l.to - l.from))
    ≡ first_or (length l.table) (stops_at l.table l.sought) (rising (l.block * table_block) (l.to - l.block * table_block))
