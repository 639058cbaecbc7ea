-- Document 01, "Numbers", and document 02, Q-9: the sector number of cylinder, head and sector, and back; the angle of a sector.
use Rattle.std.specs.Prelude.{ℕ, ◌+◌, ◌*◌, ◌/◌, ◌%◌, ◌<◌, Bool, not, ◌&&◌, ltb, leb}
use Rattle.paper.specs.Checks.{refuse, ◌or_else◌}
use Rattle.paper.specs.Refusals.{no_such_sector}
use Rattle.paper.specs.Exactly.{When, ◌and_then◌}
use Rattle.paper.specs.Conditions.{NotBelow}
use Rattle.shape.specs.declared.Shape.{Shape}
use Rattle.shape.specs.declared.Address.{Address}
use Rattle.shape.specs.Shapes.{size_of, shape_fault, ShapeJudged}

-- sector number = (cylinder × H + head) × S + sector
abbrev pub sector_at : Shape → ℕ → ℕ → ℕ → ℕ
sector_at shape cylinder head sector = (cylinder * shape.heads + head) * shape.sectors + sector

-- group = head / t
abbrev pub group_of : Shape → ℕ → ℕ
group_of shape head = head / shape.tracks

-- angle = (sector + offset × group) mod S
abbrev pub angle_at : Shape → ℕ → ℕ → ℕ
angle_at shape head sector = (sector + shape.offset * group_of shape head) % shape.sectors

-- cylinder, head and sector, and the angle beside them
abbrev pub with_angle : Shape → ℕ → ℕ → ℕ → Address
with_angle shape cylinder head sector = record { cylinder = cylinder; head = head; sector = sector; angle = angle_at shape head sector }

-- the address of a sector number: its track is sector / S, and divisions drop the remainder
abbrev pub address_at : Shape → ℕ → Address
address_at shape sector = with_angle shape (sector / shape.sectors / shape.heads) (sector / shape.sectors % shape.heads) (sector % shape.sectors)

-- cylinder, head and sector are each below their bound
pub record OnDrive (shape : Shape) (cylinder head sector : ℕ) : Type 0 where
  pub cylinder-below : cylinder < shape.cylinders
  pub head-below : head < shape.heads
  pub sector-below : sector < shape.sectors

-- whether they are
abbrev pub on_drive : Shape → ℕ → ℕ → ℕ → Bool
on_drive shape cylinder head sector = ltb cylinder shape.cylinders && (ltb head shape.heads && ltb sector shape.sectors)

-- check 6 for cylinder, head and sector
abbrev pub off_drive_fault : Shape → ℕ → ℕ → ℕ → ℕ
off_drive_fault shape cylinder head sector = refuse (not (on_drive shape cylinder head sector)) no_such_sector

-- checks 1, 6 of `shape::sector_of`
abbrev pub sector_of_fault : Shape → ℕ → ℕ → ℕ → ℕ
sector_of_fault shape cylinder head sector = shape_fault shape or_else off_drive_fault shape cylinder head sector

-- checks 1, 6 of `shape::address_of`
abbrev pub address_of_fault : Shape → ℕ → ℕ
address_of_fault shape sector = shape_fault shape or_else refuse (leb (size_of shape) sector) no_such_sector

-- exactly when 6 is given for cylinder, head and sector
abbrev pub OffDriveJudged : Shape → ℕ → ℕ → ℕ → ℕ → Type 0
OffDriveJudged shape cylinder head sector = When no_such_sector (OnDrive shape cylinder head sector → ⊥)

-- exactly when `shape::sector_of` gives each number
abbrev pub SectorOfJudged : Shape → ℕ → ℕ → ℕ → ℕ → Type 0
SectorOfJudged shape cylinder head sector = ShapeJudged shape and_then OffDriveJudged shape cylinder head sector

-- exactly when `shape::address_of` gives each number
abbrev pub AddressOfJudged : Shape → ℕ → ℕ → Type 0
AddressOfJudged shape sector = ShapeJudged shape and_then When no_such_sector (NotBelow (size_of shape) sector)
