-- An entry more is one more bad sector.
use mathlib.Core.Path.{◌∙◌}
use native.Mathlib.Omega.{arith}
use Rattle.first_table.proofs.Marked.{marked_next, marked_all}
use Rattle.first_table.proofs.marks.mark.Goals as goal

pub loop-sector-preserved : goal.loop-sector-preserved
loop-sector-preserved c = c.mark_one.ensures ∙ marked_next c.args.bad.layout.laid c.args.bad.proper c.loop-sector.sector-index (omega arith) _ _ c.loop-sector.invariant

pub returns : goal.returns
returns c = marked_all c.args.bad.layout.drive c.args.bad.list.now c.loop-sector.sector-index (omega arith) _ _ _ c.clear.ensures c.loop-sector.invariant
