-- Where N and the list pass, the list is proper, and `is_of` tells whether the cursor belongs to it.
use Rattle.lists.proofs.Exact.{space-list}
use Rattle.skip.proofs.check_cursor.Goals as goal

pub is_of-requires-clause-proper : goal.is_of-requires-clause-proper
is_of-requires-clause-proper c = rw c.in_ok-checked.ensures.1 (space-list c.args.n c.args.list.now c.in_ok-checked.ensures.0)
