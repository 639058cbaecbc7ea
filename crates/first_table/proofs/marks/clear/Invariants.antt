-- The loop's invariant: what is written and what is left of the clear table are that table, and the room beyond is as it was.
use mathlib.Core.List.{[]}
use Rattle.lists.proofs.Filling.{Filled}
use Rattle.first_table.specs.Marks.{marked}
use Rattle.first_table.proofs.Marked.{marked_from}
use Rattle.first_table.proofs.marks.clear.Given as goal

abbrev pub invariant-loop-place : goal.invariant-loop-place
invariant-loop-place l = Filled (marked l.layout.drive []) (marked_from l.layout.drive [] l.place) l.initial.room l.room l.place
