-- Document 01, "Descriptors and spares", and document 02, Q-3 and Q-6: the checks of the calls on a revectored drive.
use Rattle.std.specs.Prelude.{ℕ, List, leb, length}
use Rattle.paper.specs.Checks.{refuse, ◌or_else◌}
use Rattle.paper.specs.Refusals.{no_such_sector, no_spare}
use Rattle.paper.specs.Exactly.{When, ◌and_then◌}
use Rattle.paper.specs.Conditions.{NotBelow}
use Rattle.shape.specs.declared.Shape.{Shape}
use Rattle.shape.specs.Shapes.{size_of}
use Rattle.shape.specs.Addresses.{off_drive_fault, OffDriveJudged}
use Rattle.layout.specs.Layouts.{drive_of}
use Rattle.table.specs.Rules.{table_fault, block_fault, TableJudged, BlockJudged}
use Rattle.replacing.specs.Replacing.{spare_for, NoneFree}

-- checks 1, 7, 11, 6 for a sector number
abbrev pub block_on_fault : Shape → ℕ → List ℕ → List ℕ → ℕ → ℕ
block_on_fault shape r t scratch s = table_fault shape r t scratch or_else refuse (leb (size_of shape) s) no_such_sector

-- checks 1, 7, 11, 6 for cylinder, head and sector
abbrev pub block_at_fault : Shape → ℕ → List ℕ → List ℕ → ℕ → ℕ → ℕ → ℕ
block_at_fault shape r t scratch cylinder head sector = table_fault shape r t scratch or_else off_drive_fault shape cylinder head sector

-- checks 1, 7, 11, 5, 13
abbrev pub replace_fault : Shape → ℕ → List ℕ → List ℕ → ℕ → ℕ
replace_fault shape r t scratch b = block_fault shape r t scratch b or_else refuse (leb (length t) (spare_for (drive_of shape r) t b)) no_spare

-- exactly when `spares::block_on` gives each number
abbrev pub BlockOnJudged : Shape → ℕ → List ℕ → List ℕ → ℕ → ℕ → Type 0
BlockOnJudged shape r t scratch s = TableJudged shape r t scratch and_then When no_such_sector (NotBelow (size_of shape) s)

-- exactly when `spares::block_at` gives each number
abbrev pub BlockAtJudged : Shape → ℕ → List ℕ → List ℕ → ℕ → ℕ → ℕ → ℕ → Type 0
BlockAtJudged shape r t scratch cylinder head sector = TableJudged shape r t scratch and_then OffDriveJudged shape cylinder head sector

-- exactly when `spares::replace` gives each number: 13 only where no place is free
abbrev pub ReplaceJudged : Shape → ℕ → List ℕ → List ℕ → ℕ → ℕ → Type 0
ReplaceJudged shape r t scratch b = BlockJudged shape r t scratch b and_then When no_spare (NoneFree t)
