-- The table of a drive has a place for the primary of each block, so it can be searched.
use Rattle.table.proofs.Obeying.{primary-in}
use Rattle.replacing.proofs.spare_for.Goals as goal

pub search-requires-clause-primary_in_bounds : goal.search-requires-clause-primary_in_bounds
search-requires-clause-primary_in_bounds c = rw c.primary.ensures (primary-in c.args.table.obeys c.args.table.layout.laid c.requires)
