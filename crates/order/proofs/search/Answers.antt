-- The primary's block, the blocks after it and the blocks before it are the parts of the search order, and each return is a find in one of them.
use Rattle.order.specs.Order.{stops}
use Rattle.order.proofs.Finds.{none-found}
use Rattle.order.proofs.Parts.{found-near, found_after, found_before}
use Rattle.order.proofs.search.Goals as goal

pub returns-in-Some : goal.returns-in-Some
returns-in-Some c =
    let args = c.args in
    let found = c.in-Some.ensures in
    (found-near (stops args.sought) args.table.now args.primary c.requires.table_block_len c.requires.primary_in_bounds c.in-Some.near found.0 found.1, found.1)

pub returns-in-Some-search_rising : goal.returns-in-Some-search_rising
returns-in-Some-search_rising c =
    let args = c.args in
    let found = c.in-Some-search_rising.ensures in (
      found_after (stops args.sought) args.table.now args.primary c.requires.table_block_len c.requires.primary_in_bounds
          (none-found c.search_at.ensures c.in_default.not-Some)
          c.in-Some-search_rising.after found.0 found.1,
      found.1,
    )

pub returns : goal.returns
returns c =
    let args = c.args in
    rw
    (← found_before (stops args.sought) args.table.now args.primary c.requires.table_block_len c.requires.primary_in_bounds
    (none-found c.search_at.ensures c.in_default.not-Some)
    (none-found c.search_rising.ensures c.in_default-search_rising.not-Some))
    c.search_rising-2.ensures
