use mathlib.Core.Path.{◌∙◌}
use mathlib.Core.List.{[]}
use native.Mathlib.Omega.{arith}
use Rattle.lists.proofs.Filling.{filled_none, filled_more, filled-all}
use Rattle.first_table.proofs.Marked.{marked-length, from_first, from_next, from_last}
use Rattle.first_table.proofs.marks.clear.Goals as goal

pub loop-place-init : goal.loop-place-init
loop-place-init c = rw (← from_first c.args.layout.drive []) (filled_none _ _ (rw (marked-length c.args.layout.drive []) c.requires))

pub loop-place-preserved : goal.loop-place-preserved
loop-place-preserved c = filled_more _ _ (from_next c.args.layout.drive [] c.loop-place.place (omega (arith, c.table_length-place-end.ensures)) ∙ rw c.clear_word.ensures) c.loop-place.invariant

pub returns : goal.returns
returns c = filled-all (from_last c.args.layout.drive [] c.loop-place.place (omega (arith, c.table_length-place-end.ensures))) c.loop-place.invariant
