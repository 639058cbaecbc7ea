-- The loop's invariant: the room holds the table that the entries passed mark.
use mathlib.Core.Path.{◌≡◌}
use lib.ListN.{take}
use Rattle.paper.specs.Promise.{written}
use Rattle.first_table.specs.Marks.{marked}
use Rattle.first_table.proofs.marks.mark.Given as goal

abbrev pub invariant-loop-sector : goal.invariant-loop-sector
invariant-loop-sector l = l.room ≡ written (marked l.layout.drive (take l.sector-index l.list)) l.initial.room
