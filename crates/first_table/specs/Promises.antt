-- What the public call `spares::first_table` promises.
use Rattle.std.specs.Prelude.{ℕ, List, Result}
use Rattle.paper.specs.Promise.{Fills, written}
use Rattle.paper.specs.declared.Refusal.{Refusal}
use Rattle.shape.specs.declared.Shape.{Shape}
use Rattle.layout.specs.Layouts.{drive_of}
use Rattle.table.specs.Places.{table_length}
use Rattle.first_table.specs.Tables.{first_table, first_table_fault}

-- the table's length; the room then holds the table in its first places
abbrev pub FirstTable : Shape → ℕ → List ℕ → List ℕ → Result ℕ Refusal → List ℕ → Type 0
FirstTable shape r list room =
    Fills (first_table_fault shape r list room) (table_length (drive_of shape r)) room (written (first_table (drive_of shape r) list) room)
