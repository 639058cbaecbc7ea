-- What the public calls of `spares` promise. What each that is lent a table leaves of its scratch is `Scratched` of `table`.
use Rattle.std.specs.Prelude.{ℕ, List, ℤ, pos, Option, Result, Ok, Err}
use Rattle.paper.specs.Numbers.{number}
use Rattle.paper.specs.Promise.{Gives, Fills}
use Rattle.paper.specs.declared.Refusal.{Refusal}
use Rattle.shape.specs.declared.Shape.{Shape}
use Rattle.shape.specs.declared.Address.{Address}
use Rattle.shape.specs.Addresses.{sector_at, address_at}
use Rattle.layout.specs.Layouts.{drive_of}
use Rattle.table.specs.Rules.{table_fault, block_fault}
use Rattle.table.specs.Lookup.{lies_on, lying_on}
use Rattle.table.specs.Counting.{census_of}
use Rattle.table.specs.declared.Census.{Census}
use Rattle.arm.specs.Shifts.{shift_of}
use Rattle.replacing.specs.Replacing.{spare_for, moved_in}
use Rattle.spares.specs.Spares.{block_on_fault, block_at_fault, replace_fault}

-- refusal, shift
abbrev pub said_shifted : Result ℤ Refusal → ℕ × ℤ
said_shifted (Ok shift) = (0, shift)
said_shifted (Err refusal) = (number refusal, pos 0)

-- refusal, and how many places have each code: free, primary, elsewhere, unusable, null
abbrev pub said_counted : Result Census Refusal → ℕ × ℕ × ℕ × ℕ × ℕ × ℕ
said_counted (Ok census) = (0, census.free, census.primary, census.elsewhere, census.unusable, census.null)
said_counted (Err refusal) = (number refusal, 0, 0, 0, 0, 0)

-- the sector that a block lies on
abbrev pub SectorOf : Shape → ℕ → List ℕ → List ℕ → ℕ → Result ℕ Refusal → Type 0
SectorOf shape r t scratch b = Gives (block_fault shape r t scratch b) (lies_on (drive_of shape r) t b)

-- the address of the sector that a block lies on
abbrev pub AddressOf : Shape → ℕ → List ℕ → List ℕ → ℕ → Result Address Refusal → Type 0
AddressOf shape r t scratch b = Gives (block_fault shape r t scratch b) (address_at shape (lies_on (drive_of shape r) t b))

-- how many cylinders a block is shifted
abbrev pub ShiftOf : Shape → ℕ → List ℕ → List ℕ → ℕ → Result ℤ Refusal → Type 0
ShiftOf shape r t scratch b = Gives (block_fault shape r t scratch b) (shift_of (drive_of shape r) t b)

-- the block that lies on a sector, or none
abbrev pub BlockOn : Shape → ℕ → List ℕ → List ℕ → ℕ → Result (Option ℕ) Refusal → Type 0
BlockOn shape r t scratch s = Gives (block_on_fault shape r t scratch s) (lying_on (drive_of shape r) t s)

-- the block that lies on the sector with a cylinder, a head and a sector of a track, or none
abbrev pub BlockAt : Shape → ℕ → List ℕ → List ℕ → ℕ → ℕ → ℕ → Result (Option ℕ) Refusal → Type 0
BlockAt shape r t scratch cylinder head sector =
    Gives (block_at_fault shape r t scratch cylinder head sector) (lying_on (drive_of shape r) t (sector_at shape cylinder head sector))

-- the place that a replacement takes; the table then has the block's descriptor there, and the place that it had, if it had one, is unusable
abbrev pub Replacement : Shape → ℕ → List ℕ → List ℕ → ℕ → Result ℕ Refusal → List ℕ → Type 0
Replacement shape r t scratch b = Fills (replace_fault shape r t scratch b) (spare_for (drive_of shape r) t b) t (moved_in (drive_of shape r) t b)

-- how many places of the table have each code
abbrev pub CensusOf : Shape → ℕ → List ℕ → List ℕ → Result Census Refusal → Type 0
CensusOf shape r t scratch = Gives (table_fault shape r t scratch) (census_of t)
