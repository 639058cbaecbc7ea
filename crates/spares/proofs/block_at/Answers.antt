-- The sector of an address on the drive is below N, so it is one of the layout's.
use Rattle.shape.proofs.Bounds.{sector-below}
use Rattle.shape.proofs.Exact.{place-shows}
use Rattle.table.proofs.Exact.{table-sound}
use Rattle.spares.proofs.Exact.{sector-within}
use Rattle.spares.proofs.block_at.Goals as goal

pub lying_on-requires : goal.lying_on-requires
lying_on-requires c =
    let a = c.args in
    let passed = c.in_ok-table.ensures.value in
    let sound = table-sound a.shape a.r a.table.now a.scratch.now passed.0 in
    let on-drive = place-shows a.shape a.cylinder a.head a.sector c.in_ok-check_on_drive.ensures in
    rw (passed.1.1, c.sector_at.ensures) (sector-within sound.spared (sector-below sound.shaped on-drive))
