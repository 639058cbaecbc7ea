-- Sector number and address are each other's inverse on the drive.
-- Assumes nothing.
use Prim.Native.Nat.{ℕ, ◌+◌, ◌*◌, ◌/◌, ◌<◌}
use mathlib.Core.Path.{◌≡◌}
use native.Mathlib.Nat.{div-add-mod', div-lt_iff_lt-mul, mod-lt}
use native.Mathlib.Omega.{arith}
use lib.Arith.{digits_div, digits_mod}
use Rattle.shape.specs.declared.Shape.{Shape}
use Rattle.shape.specs.Shapes.{Shaped, size_of}
use Rattle.shape.specs.Addresses.{OnDrive, sector_at, with_angle, address_at}

module _ {shape : Shape} (shaped : Shaped shape) where
  module _ {sector : ℕ} (below : sector < size_of shape) where
    -- the sector number of a sector's address is that sector
    pub there_and_back : sector_at shape (address_at shape sector).cylinder (address_at shape sector).head (address_at shape sector).sector ≡ sector
    there_and_back = rw (div-add-mod' (sector / shape.sectors) shape.heads, div-add-mod' sector shape.sectors)

    -- the address of a sector below N is on the drive
    pub address-on-drive : OnDrive shape (address_at shape sector).cylinder (address_at shape sector).head (address_at shape sector).sector
    address-on-drive =
        let some-heads : 0 < shape.heads = omega arith in
        let some-sectors : 0 < shape.sectors = omega arith in
        record {
          cylinder-below = (div-lt_iff_lt-mul some-heads).1 ((div-lt_iff_lt-mul some-sectors).1 below);
          head-below = mod-lt (sector / shape.sectors) some-heads;
          sector-below = mod-lt sector some-sectors;
        }

  module _ {cylinder head sector : ℕ} (on-drive : OnDrive shape cylinder head sector) where
    -- the address of an address's sector number is that address, its angle beside
    pub back-and-there : address_at shape (sector_at shape cylinder head sector) ≡ with_angle shape cylinder head sector
    back-and-there =
        rw (
          digits_div (cylinder * shape.heads + head) on-drive.sector-below,
          digits_mod (cylinder * shape.heads + head) on-drive.sector-below,
          digits_div cylinder on-drive.head-below,
          digits_mod cylinder on-drive.head-below,
        )
