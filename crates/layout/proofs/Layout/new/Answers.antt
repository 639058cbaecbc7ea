-- A drive that passes its check is laid.
use native.Mathlib.Omega.{arith}
use Rattle.paper.specs.Refusals.{out_of_range}
use Rattle.paper.proofs.Rows.{passed-shows}
use Rattle.layout.proofs.Exact.{tells-drives}
use Rattle.layout.proofs.Layings.{laid}
use Rattle.layout.proofs.Layout.new.Goals as goal

pub invariant_of-result : goal.invariant_of-result
invariant_of-result c =
    let spared = passed-shows (tells-drives c.in_ok-geometry.geometry.shape c.args.r) out_of_range (omega arith) c.in_ok-check_spares.ensures in
    record { laid = rw c.numbers-drive.ensures (laid c.in_ok-geometry.geometry.shaped spared) }
