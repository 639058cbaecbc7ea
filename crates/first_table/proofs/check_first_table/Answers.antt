-- A list that passes its check is proper over the drive's sectors.
use Rattle.lists.proofs.Exact.{list-shows}
use Rattle.shape.specs.Shapes.{size_of}
use Rattle.layout.proofs.Exact.{drive-shows}
use Rattle.first_table.proofs.Exact.{laid-proper}
use Rattle.first_table.proofs.check_first_table.Goals as goal

pub invariant_of-bad : goal.invariant_of-bad
invariant_of-bad c =
    let a = c.args in
    let shown = drive-shows a.shape a.r c.in_ok-layout.ensures.0 in
    let proper = list-shows (size_of a.shape) a.list.now (rw c.size.ensures at c.in_ok-check_list.ensures.0) in
    record { proper = rw c.in_ok-layout.ensures.1.1 (laid-proper shown.1 proper) }
