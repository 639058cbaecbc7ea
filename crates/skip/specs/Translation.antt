-- Document 01, "Skipping": block to sector and sector to block on N sectors with a list of bad ones, with their checks.
use Rattle.std.specs.Prelude.{ℕ, ◌-◌, List, leb, length, Option, Some, None}
use Rattle.paper.specs.Checks.{pick, refuse, ◌or_else◌}
use Rattle.paper.specs.Refusals.{no_such_block, no_such_sector}
use Rattle.paper.specs.Exactly.{When, ◌and_then◌}
use Rattle.paper.specs.Conditions.{NotBelow}
use Rattle.lists.specs.Proper.{space_fault, SpaceJudged}
use Rattle.lists.specs.Union.{is_in}
use Rattle.skip.specs.Skipping.{goods_before}

-- how many blocks are left: each entry of the list takes one sector away
abbrev pub blocks : ℕ → List ℕ → ℕ
blocks n a = n - length a

-- row 5 over a list: it leaves no block of this number
abbrev pub PastBlocks : ℕ → List ℕ → ℕ → Type 0
PastBlocks n a b = NotBelow (blocks n a) b

-- checks 1, list, 5 of `skip::sector_of` and `Cursor::start`
abbrev pub sector_of_fault : ℕ → List ℕ → ℕ → ℕ
sector_of_fault n a b = space_fault n a or_else refuse (leb (blocks n a) b) no_such_block

-- checks 1, list, 6 of `skip::block_on`
abbrev pub block_on_fault : ℕ → List ℕ → ℕ → ℕ
block_on_fault n a s = space_fault n a or_else refuse (leb n s) no_such_sector

-- the block on a sector, or no block where the sector is in the list
abbrev pub block_on : List ℕ → ℕ → Option ℕ
block_on a s = pick (is_in a s) None (Some (goods_before (is_in a) s))

-- exactly when `skip::sector_of` and `Cursor::start` give each number
abbrev pub SectorOfJudged : ℕ → List ℕ → ℕ → ℕ → Type 0
SectorOfJudged n a b = SpaceJudged n a and_then When no_such_block (PastBlocks n a b)

-- exactly when `skip::block_on` gives each number
abbrev pub BlockOnJudged : ℕ → List ℕ → ℕ → ℕ → Type 0
BlockOnJudged n a s = SpaceJudged n a and_then When no_such_sector (NotBelow n s)
