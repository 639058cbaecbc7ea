-- The loop's invariant: the search of the whole block is the search of the turns that are left.
use Prim.Native.Nat.{◌-◌}
use mathlib.Core.Path.{◌≡◌}
use Rattle.paper.specs.Limits.{table_block}
use Rattle.seek.specs.Search.{first_or}
use Rattle.order.specs.Order.{block_order, stops_at}
use Rattle.order.specs.Steps.{turns}
use Rattle.order.proofs.Turns.{tried}
use Rattle.order.proofs.search_block.Given as goal

abbrev pub invariant-loop-turn : goal.invariant-loop-turn
invariant-loop-turn l =
    first_or table_block (stops_at l.held l.sought) (block_order l.o) ≡ first_or table_block (stops_at l.held l.sought) (tried l.o l.turn (turns - l.turn))
