-- A drive that passes its check is laid: the homes and spares of its tracks are its sectors, and so its products fit.
-- Assumes nothing.
use Prim.Native.Nat.{ℕ, ◌*◌}
use mathlib.Core.Path.{◌≡◌, refl}
use native.Mathlib.Nat.{one-le-mul}
use native.Mathlib.Omega.{arith}
use Rattle.shape.specs.declared.Shape.{Shape}
use Rattle.shape.specs.Shapes.{Shaped, size_of}
use Rattle.shape.proofs.Bounds.{size_fits}
use Rattle.layout.specs.Layouts.{Spared, drive_of, sectors_per_track}
use Rattle.layout.specs.Steps.{Laid}

module _ {shape : Shape} {r : ℕ} (drives : Spared shape r) where
  -- homes and spares of a track are its sectors, and those of all tracks the drive's
  pub track-whole : sectors_per_track (drive_of shape r) ≡ shape.sectors
  track-whole = omega arith

  pub drive-whole : (drive_of shape r).tracks * sectors_per_track (drive_of shape r) ≡ size_of shape
  drive-whole = rw track-whole

pub laid : {shape : Shape} {r : ℕ} → Shaped shape → Spared shape r → Laid (drive_of shape r)
laid {shape} {r} shaped drives =
    record {
      heads-some = shaped.heads.0;
      home_some = omega arith;
      spare-some = drives.some;
      tracks-some = one-le-mul shaped.cylinders.0 shaped.heads.0;
      are-spares = refl;
      are-blocks = refl;
      spares-fit = drives.fit;
      sectors-fit = rw (drive-whole drives) (size_fits shaped);
    }
