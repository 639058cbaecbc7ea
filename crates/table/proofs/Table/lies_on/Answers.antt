-- The place that names the block is a spare's, and where none does the block lies at home.
use Rattle.table.proofs.Lookups.{place-spare}
use Rattle.table.proofs.Table.lies_on.Goals as goal

pub spare_sector-requires : goal.spare_sector-requires
spare_sector-requires c =
    let found = c.in-Some.ensures in
    rw found.0 (place-spare c.args.self.obeys c.args.block (rw found.0 at found.1))
