-- Each chain of checks of `shape` gives exactly the numbers of its rows, and a chain that gives 0 shows what it checks.
-- Assumes nothing.
use Prim.Native.Nat.{ℕ, ◌*◌, ◌<◌, ◌≤◌}
use mathlib.Core.Path.{◌≡◌}
use native.Mathlib.Omega.{arith}
use Rattle.paper.specs.Refusals.{out_of_range, no_such_sector}
use Rattle.paper.specs.Limits.{Within, cylinders_most, heads_most, sectors_least, sectors_most}
use Rattle.paper.specs.Exactly.{Exactly, When}
use Rattle.paper.proofs.Rows.{Tells, tells-eq, tells-lt, tells-le, tells-not, tells_both, tells-within, passed-shows, row, rows}
use Rattle.shape.specs.declared.Shape.{Shape}
use Rattle.shape.specs.Shapes.{Grouped, grouped, Shaped, shaped, size_of, shape_fault, ShapeJudged}
use Rattle.shape.specs.Addresses.{OnDrive, on_drive, off_drive_fault, sector_of_fault, address_of_fault, OffDriveJudged, SectorOfJudged, AddressOfJudged}
use Rattle.shape.specs.Steps.{group_fault}

module _ (shape : Shape) where
  tells-grouped : Tells (grouped shape) (Grouped shape)
  tells-grouped =
      record {
        holds = λ e. let h = parts.holds e in record { groups = h.0; tracks = h.1.0; all-heads = h.1.1.0; offset = h.1.1.1 };
        told = λ s. parts.told (s.groups, (s.tracks, (s.all-heads, s.offset)));
      }
    where
      parts :
          Tells (grouped shape)
          (Within 1 heads_most shape.groups × (Within 1 heads_most shape.tracks × ((shape.groups * shape.tracks ≡ shape.heads) × (shape.offset < shape.sectors))))
      parts =
          tells_both (tells-within 1 heads_most shape.groups)
          (tells_both (tells-within 1 heads_most shape.tracks) (tells_both (tells-eq (shape.groups * shape.tracks) shape.heads) (tells-lt shape.offset shape.sectors)))

  pub group-exactly : Exactly (When out_of_range (Grouped shape → ⊥)) (group_fault shape)
  group-exactly = row (tells-not tells-grouped) out_of_range

  pub tells-shaped : Tells (shaped shape) (Shaped shape)
  tells-shaped =
      record {
        holds = λ e. let h = ranges.holds e in record { cylinders = h.0; heads = h.1.0; sectors = h.1.1.0; groups = h.1.1.1 };
        told = λ s. ranges.told (s.cylinders, (s.heads, (s.sectors, s.groups)));
      }
    where
      ranges :
          Tells (shaped shape)
          (Within 1 cylinders_most shape.cylinders × (Within 1 heads_most shape.heads × (Within sectors_least sectors_most shape.sectors × Grouped shape)))
      ranges =
          tells_both (tells-within 1 cylinders_most shape.cylinders)
          (tells_both (tells-within 1 heads_most shape.heads) (tells_both (tells-within sectors_least sectors_most shape.sectors) tells-grouped))

  -- where cylinders, heads and sectors are in their ranges, the groups alone decide
  pub ranges-leave-groups :
      Within 1 cylinders_most shape.cylinders → Within 1 heads_most shape.heads → Within sectors_least sectors_most shape.sectors →
      group_fault shape ≡ shape_fault shape
  ranges-leave-groups cylinders heads sectors =
      rw (
        (tells-within 1 cylinders_most shape.cylinders).told cylinders,
        (tells-within 1 heads_most shape.heads).told heads,
        (tells-within sectors_least sectors_most shape.sectors).told sectors,
      )

  pub shape-shows : shape_fault shape ≡ 0 → Shaped shape
  shape-shows = passed-shows tells-shaped out_of_range (omega arith)

  pub shape-exactly : Exactly (ShapeJudged shape) (shape_fault shape)
  shape-exactly = row (tells-not tells-shaped) out_of_range

  module _ (cylinder head sector : ℕ) where
    pub tells-on-drive : Tells (on_drive shape cylinder head sector) (OnDrive shape cylinder head sector)
    tells-on-drive =
        record {
          holds = λ e. let h = bounds.holds e in record { cylinder-below = h.0; head-below = h.1.0; sector-below = h.1.1 };
          told = λ d. bounds.told (d.cylinder-below, (d.head-below, d.sector-below));
        }
      where
        bounds : Tells (on_drive shape cylinder head sector) ((cylinder < shape.cylinders) × ((head < shape.heads) × (sector < shape.sectors)))
        bounds = tells_both (tells-lt cylinder shape.cylinders) (tells_both (tells-lt head shape.heads) (tells-lt sector shape.sectors))

    pub place-shows : off_drive_fault shape cylinder head sector ≡ 0 → OnDrive shape cylinder head sector
    place-shows = passed-shows tells-on-drive no_such_sector (omega arith)

    pub place-exactly : Exactly (OffDriveJudged shape cylinder head sector) (off_drive_fault shape cylinder head sector)
    place-exactly = row (tells-not tells-on-drive) no_such_sector

    pub sector-of-exactly : Exactly (SectorOfJudged shape cylinder head sector) (sector_of_fault shape cylinder head sector)
    sector-of-exactly = rows (ShapeJudged shape) (OffDriveJudged shape cylinder head sector) shape-exactly place-exactly

  pub address-of-exactly : (sector : ℕ) → Exactly (AddressOfJudged shape sector) (address_of_fault shape sector)
  address-of-exactly sector =
      rows (ShapeJudged shape) (When no_such_sector (size_of shape ≤ sector)) shape-exactly (row (tells-le (size_of shape) sector) no_such_sector)
