-- Document 01, "Format", and demand 3: the nights that the law is claimed for, and two nights' lists as one.
use Rattle.std.specs.Prelude.{ℕ, ◌≡◌, ◌⊎◌, List}
use Rattle.lists.specs.Union.{union}
use Rattle.skip.specs.Skipping.{sectors_of_blocks}

-- option 1 in space 3, or option 3 in space 2: a list of blocks is added, and the new map is over the same kinds of list as the map in use
abbrev pub ScanNight : ℕ → ℕ → Type 0
ScanNight space option = ((space ≡ 3) × (option ≡ 1)) ⊎ ((space ≡ 2) × (option ≡ 3))

-- the first night's list joined to the second's, written in the numbers that the first list is written in: the second names block c of the first night's map, which is the block that is not named and has exactly c blocks before it that are not named
abbrev pub joined : ℕ → List ℕ → List ℕ → List ℕ
joined blocks first second = union first (sectors_of_blocks blocks first second)
