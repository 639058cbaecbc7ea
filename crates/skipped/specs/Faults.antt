-- Document 01, "Numbers" and "Skipping": the checks of the calls on a skipped drive by its shape.
use Rattle.std.specs.Prelude.{ℕ, List, leb}
use Rattle.paper.specs.Checks.{refuse, ◌or_else◌}
use Rattle.paper.specs.Refusals.{no_such_block}
use Rattle.paper.specs.Exactly.{When, ◌and_then◌}
use Rattle.lists.specs.Proper.{list_fault, ListJudged}
use Rattle.shape.specs.Shapes.{size_of, shape_fault, ShapeJudged}
use Rattle.shape.specs.Addresses.{off_drive_fault, OffDriveJudged}
use Rattle.shape.specs.declared.Shape.{Shape}
use Rattle.skip.specs.Translation.{blocks, PastBlocks}

-- checks 1, list over the drive's N sectors
abbrev pub skipped_fault : Shape → List ℕ → ℕ
skipped_fault shape a = shape_fault shape or_else list_fault (size_of shape) a

-- checks 1, list, 5 of `skipped::address_of`
abbrev pub address_of_fault : Shape → List ℕ → ℕ → ℕ
address_of_fault shape a b = skipped_fault shape a or_else refuse (leb (blocks (size_of shape) a) b) no_such_block

-- checks 1, list, 6 of `skipped::block_at`
abbrev pub block_at_fault : Shape → List ℕ → ℕ → ℕ → ℕ → ℕ
block_at_fault shape a cylinder head sector = skipped_fault shape a or_else off_drive_fault shape cylinder head sector

-- exactly when 1 to 4 are given for a shape and a list over its sectors
abbrev pub SkippedJudged : Shape → List ℕ → ℕ → Type 0
SkippedJudged shape a = ShapeJudged shape and_then ListJudged (size_of shape) a

-- exactly when `skipped::address_of` gives each number
abbrev pub AddressOfJudged : Shape → List ℕ → ℕ → ℕ → Type 0
AddressOfJudged shape a b = SkippedJudged shape a and_then When no_such_block (PastBlocks (size_of shape) a b)

-- exactly when `skipped::block_at` gives each number
abbrev pub BlockAtJudged : Shape → List ℕ → ℕ → ℕ → ℕ → ℕ → Type 0
BlockAtJudged shape a cylinder head sector = SkippedJudged shape a and_then OffDriveJudged shape cylinder head sector
