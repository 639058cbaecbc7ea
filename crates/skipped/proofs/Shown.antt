-- What the passed checks of a skipped drive show: a shape in range, a proper list over its sectors, and a number below its bound.
-- Assumes nothing.
use Prim.Native.Nat.{ℕ, ◌<◌, ◌≤◌}
use mathlib.Core.Path.{◌≡◌, sym}
use mathlib.Core.List.{List}
use native.Mathlib.Omega.{arith}
use lib.Dec.{leb}
use Rattle.paper.proofs.Rows.{below-shows}
use Rattle.paper.specs.Checks.{refuse}
use Rattle.paper.specs.Refusals.{no_such_block}
use Rattle.paper.specs.Limits.{units_most}
use Rattle.paper.proofs.Chain.{or_else-first, or_else-next}
use Rattle.lists.specs.Proper.{Proper, list_fault}
use Rattle.lists.specs.Union.{is_in}
use Rattle.lists.proofs.Exact.{list-shows}
use Rattle.shape.specs.Shapes.{Shaped, size_of, shape_fault}
use Rattle.shape.specs.Addresses.{OnDrive, off_drive_fault}
use Rattle.shape.specs.declared.Shape.{Shape}
use Rattle.shape.proofs.Exact.{shape-shows, place-shows}
use Rattle.shape.proofs.Bounds.{size_fits}
use Rattle.skip.specs.Skipping.{place}
use Rattle.skip.specs.Walk.{walked}
use Rattle.skip.specs.Translation.{blocks}
use Rattle.skip.proofs.Walks.{walk-is-place}
use Rattle.skipped.specs.Faults.{skipped_fault, address_of_fault, block_at_fault}

module _ (shape : Shape) (a : List ℕ) where
  pub drive-shaped : skipped_fault shape a ≡ 0 → Shaped shape
  drive-shaped none = shape-shows shape (or_else-first (shape_fault shape) (list_fault (size_of shape) a) none)

  pub drive-proper : skipped_fault shape a ≡ 0 → Proper (size_of shape) a
  drive-proper none = list-shows (size_of shape) a (or_else-next (shape_fault shape) (list_fault (size_of shape) a) none)

  module _ (b : ℕ) (none : address_of_fault shape a b ≡ 0) where
    pub block-drive : skipped_fault shape a ≡ 0
    block-drive = or_else-first (skipped_fault shape a) (refuse (leb (blocks (size_of shape) a) b) no_such_block) none

    pub block-below : b < blocks (size_of shape) a
    block-below =
        below-shows (blocks (size_of shape) a) b no_such_block (omega arith)
        (or_else-next (skipped_fault shape a) (refuse (leb (blocks (size_of shape) a) b) no_such_block) none)

    pub block-most : b ≤ units_most
    block-most = let fits : size_of shape ≤ units_most = size_fits (drive-shaped block-drive) in omega (arith, block-below)

    pub block-walk : walked a b ≡ place (is_in a) (size_of shape) b
    block-walk =
        let proper : Proper (size_of shape) a = drive-proper block-drive in
        sym (walk-is-place (size_of shape) a proper.rising proper.inside b block-below)

  module _ (cylinder head sector : ℕ) (none : block_at_fault shape a cylinder head sector ≡ 0) where
    pub place-drive : skipped_fault shape a ≡ 0
    place-drive = or_else-first (skipped_fault shape a) (off_drive_fault shape cylinder head sector) none

    pub place-on-drive : OnDrive shape cylinder head sector
    place-on-drive = place-shows shape cylinder head sector (or_else-next (skipped_fault shape a) (off_drive_fault shape cylinder head sector) none)
