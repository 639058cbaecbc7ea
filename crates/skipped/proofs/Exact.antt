-- Each public call of `skipped` gives exactly the numbers of its rows.
-- Assumes nothing.
use Prim.Native.Nat.{ℕ}
use mathlib.Core.List.{List}
use Rattle.paper.specs.Refusals.{no_such_block}
use Rattle.paper.specs.Exactly.{Exactly}
use Rattle.paper.proofs.Rows.{tells-le, row, rows}
use Rattle.lists.proofs.Exact.{list-exactly}
use Rattle.shape.specs.Shapes.{size_of}
use Rattle.shape.specs.declared.Shape.{Shape}
use Rattle.shape.proofs.Exact.{shape-exactly, place-exactly}
use Rattle.skip.specs.Translation.{blocks}
use Rattle.skipped.specs.Faults.{skipped_fault, address_of_fault, block_at_fault, SkippedJudged, AddressOfJudged, BlockAtJudged}

module _ (shape : Shape) (a : List ℕ) where
  pub drive-exactly : Exactly (SkippedJudged shape a) (skipped_fault shape a)
  drive-exactly = rows _ _ (shape-exactly shape) (list-exactly (size_of shape) a)

  pub address-of-exactly : (b : ℕ) → Exactly (AddressOfJudged shape a b) (address_of_fault shape a b)
  address-of-exactly b = rows _ _ drive-exactly (row (tells-le (blocks (size_of shape) a) b) no_such_block)

  pub block-at-exactly : (cylinder head sector : ℕ) → Exactly (BlockAtJudged shape a cylinder head sector) (block_at_fault shape a cylinder head sector)
  block-at-exactly cylinder head sector = rows _ _ drive-exactly (place-exactly shape cylinder head sector)
