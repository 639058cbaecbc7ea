-- A sector that is no home is the sector of a spare, whose place is in the table.
use mathlib.Core.Path.{sym, ◌∙◌}
use native.Mathlib.Omega.{arith}
use Rattle.first_table.proofs.Numbering.{spare-placed}
use Rattle.first_table.proofs.marks.mark_one.Goals as goal

pub bounds-room-place_of_spare : goal.bounds-room-place_of_spare
bounds-room-place_of_spare c = omega (arith, c.place_of_spare.ensures, spare-placed c.args.layout.laid c.args.sector c.requires.sector_bound (sym c.is_home.ensures ∙ c.if-is_home.false))
