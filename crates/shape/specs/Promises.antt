-- What the public calls of `shape` promise.
use Rattle.std.specs.Prelude.{ℕ, Result, Ok, Err}
use Rattle.paper.specs.Numbers.{number}
use Rattle.paper.specs.Promise.{Gives}
use Rattle.paper.specs.declared.Refusal.{Refusal}
use Rattle.shape.specs.declared.Shape.{Shape}
use Rattle.shape.specs.declared.Address.{Address}
use Rattle.shape.specs.Addresses.{sector_at, address_at, sector_of_fault, address_of_fault}

-- refusal, cylinder, head, sector, angle
abbrev pub said_located : Result Address Refusal → ℕ × ℕ × ℕ × ℕ × ℕ
said_located (Ok address) = (0, address.cylinder, address.head, address.sector, address.angle)
said_located (Err refusal) = (number refusal, 0, 0, 0, 0)

-- the sector number of cylinder, head and sector
abbrev pub SectorOf : Shape → ℕ → ℕ → ℕ → Result ℕ Refusal → Type 0
SectorOf shape cylinder head sector = Gives (sector_of_fault shape cylinder head sector) (sector_at shape cylinder head sector)

-- the address of the sector number
abbrev pub AddressOf : Shape → ℕ → Result Address Refusal → Type 0
AddressOf shape sector = Gives (address_of_fault shape sector) (address_at shape sector)
