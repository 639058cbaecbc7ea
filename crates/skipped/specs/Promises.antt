-- What the public calls of `skipped` promise.
use Rattle.std.specs.Prelude.{ℕ, List, Option, Result}
use Rattle.paper.specs.Promise.{Gives}
use Rattle.paper.specs.declared.Refusal.{Refusal}
use Rattle.lists.specs.Union.{is_in}
use Rattle.shape.specs.Shapes.{size_of}
use Rattle.shape.specs.Addresses.{sector_at, address_at}
use Rattle.shape.specs.declared.Shape.{Shape}
use Rattle.shape.specs.declared.Address.{Address}
use Rattle.skip.specs.Skipping.{place}
use Rattle.skip.specs.Translation.{block_on}
use Rattle.skipped.specs.Faults.{address_of_fault, block_at_fault}

-- the address of the sector that the block lies on
abbrev pub AddressOf : Shape → List ℕ → ℕ → Result Address Refusal → Type 0
AddressOf shape a b = Gives (address_of_fault shape a b) (address_at shape (place (is_in a) (size_of shape) b))

-- the block on the sector with a cylinder, a head and a sector of a track, or none
abbrev pub BlockAt : Shape → List ℕ → ℕ → ℕ → ℕ → Result (Option ℕ) Refusal → Type 0
BlockAt shape a cylinder head sector = Gives (block_at_fault shape a cylinder head sector) (block_on a (sector_at shape cylinder head sector))
