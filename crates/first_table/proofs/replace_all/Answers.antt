use native.Mathlib.Omega.{arith}
use Rattle.first_table.proofs.Along.{along-none, along-free, along-more, along-all}
use Rattle.first_table.proofs.replace_all.Goals as goal

pub loop-sector-init : goal.loop-sector-init
loop-sector-init c = along-none c.args.bad.layout.laid c.args.bad.proper c.requires

pub replace_one-requires-clause-free_nonzero : goal.replace_one-requires-clause-free_nonzero
replace_one-requires-clause-free_nonzero c = along-free c.args.bad.layout.laid c.args.bad.proper c.loop-sector.invariant (omega arith)

pub loop-sector-preserved : goal.loop-sector-preserved
loop-sector-preserved c = rw c.replace_one.ensures (along-more c.args.bad.layout.laid c.args.bad.proper c.loop-sector.invariant (omega arith))

pub returns : goal.returns
returns c = along-all c.args.bad.layout.laid c.args.bad.proper c.loop-sector.invariant (omega arith)
