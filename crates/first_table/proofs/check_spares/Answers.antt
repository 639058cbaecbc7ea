-- Bad spares are no more than spares.
use Rattle.first_table.proofs.Bads.{bad-spares-few}
use Rattle.first_table.proofs.check_spares.Goals as goal

pub overflow_sub-drive : goal.overflow_sub-drive
overflow_sub-drive c = rw c.count_bad-bad.ensures.are-spares (bad-spares-few c.args.sectors.layout.drive c.args.sectors.list.now)
