-- The products of a shape are in their bounds: N fits the units of a space, an address on the drive has a sector number below N, a head is of one of the groups, and groups that make up all heads are in their ranges.
-- Assumes nothing.
use Prim.Native.Nat.{ℕ, zero, suc, ◌+◌, ◌*◌, ◌<◌, ◌≤◌}
use mathlib.Core.Path.{◌≡◌, sym, ◌∙◌}
use native.Mathlib.Nat.{zero-mul, mul-zero, mul_comm, le-mul_of_pos_right, mul-le-mul, div-lt_iff_lt-mul, le_of_lt, le_trans}
use native.Mathlib.Omega.{arith}
use lib.Arith.{digits_lt}
use Rattle.paper.specs.Limits.{Within, units_most, cylinders_most, heads_most, sectors_most}
use Rattle.shape.specs.declared.Shape.{Shape}
use Rattle.shape.specs.Shapes.{Shaped, size_of}
use Rattle.shape.specs.Addresses.{OnDrive, sector_at, group_of}

-- two numbers whose product is that of all heads are each in the range of the heads
pub groups-in-range : (g t : ℕ) {heads : ℕ} → Within 1 heads_most heads → g * t ≡ heads → Within 1 heads_most g × Within 1 heads_most t
groups-in-range zero t {heads} inside all = let none : heads ≡ 0 = sym all ∙ zero-mul t in absurd (omega (arith, inside.0))
groups-in-range (suc g) zero {heads} inside all = let none : heads ≡ 0 = sym all ∙ mul-zero (suc g) in absurd (omega (arith, inside.0))
groups-in-range (suc g) (suc t) inside all =
    let most : suc g * suc t ≤ heads_most = rw all inside.1 in
    ((omega arith, le_trans (le-mul_of_pos_right (suc g) (omega arith)) most), (omega arith, le_trans (le-mul_of_pos_right {m = suc g} (suc t) (omega arith)) (rw (mul_comm (suc t) (suc g)) most)))

module _ {shape : Shape} (shaped : Shaped shape) where
  -- the tracks of a drive, C × H
  pub tracks-fit : shape.cylinders * shape.heads ≤ cylinders_most * heads_most
  tracks-fit = mul-le-mul shaped.cylinders.1 shaped.heads.1

  pub size_fits : size_of shape ≤ units_most
  size_fits = mul-le-mul tracks-fit shaped.sectors.1

  module _ {head : ℕ} (below : head < shape.heads) where
    -- the group of a head is one of the drive's groups
    pub group-below : group_of shape head < shape.groups
    group-below = (div-lt_iff_lt-mul shaped.groups.tracks.0).1 (rw shaped.groups.all-heads below)

    -- how many sectors after the first group its group starts
    pub start_fits : shape.offset * group_of shape head ≤ sectors_most * heads_most
    start_fits = mul-le-mul (le_trans (le_of_lt shaped.groups.offset) shaped.sectors.1) (le_trans (le_of_lt group-below) shaped.groups.groups.1)

  module _ {cylinder head sector : ℕ} (on-drive : OnDrive shape cylinder head sector) where
    -- the track of an address is one of the drive's tracks
    pub track-below : cylinder * shape.heads + head < shape.cylinders * shape.heads
    track-below = digits_lt on-drive.cylinder-below on-drive.head-below

    -- the sector number of an address is below N
    pub sector-below : sector_at shape cylinder head sector < size_of shape
    sector-below = digits_lt track-below on-drive.sector-below
