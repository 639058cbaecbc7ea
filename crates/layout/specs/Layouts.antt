-- Document 01, "Numbers" and "Descriptors and spares": the numbers of a revectored drive, its check, and where homes and spares lie.
use Rattle.std.specs.Prelude.{ℕ, ◌+◌, ◌-◌, ◌*◌, ◌/◌, ◌%◌, ◌<◌, ◌≤◌, Bool, not, ◌&&◌, ltb, leb}
use Rattle.paper.specs.Checks.{refuse, ◌or_else◌}
use Rattle.paper.specs.Refusals.{out_of_range}
use Rattle.paper.specs.Limits.{spares_most}
use Rattle.paper.specs.Exactly.{When, ◌and_then◌}
use Rattle.shape.specs.Shapes.{shape_fault, ShapeJudged}
use Rattle.shape.specs.declared.Shape.{Shape}
use Rattle.layout.specs.declared.Drive.{Drive}

-- T = C × H
abbrev pub tracks_of : Shape → ℕ
tracks_of shape = shape.cylinders * shape.heads

-- r is in its range, 1 ≤ r < S, and so is T × r, the spares of all tracks
pub record Spared (shape : Shape) (r : ℕ) : Type 0 where
  pub some : 1 ≤ r
  pub fewer : r < shape.sectors
  pub fit : tracks_of shape * r ≤ spares_most

abbrev pub spared : Shape → ℕ → Bool
spared shape r = leb 1 r && (ltb r shape.sectors && leb (tracks_of shape * r) spares_most)

-- check 1 of a revectored drive: its shape, then r and T × r
abbrev pub drive_fault : Shape → ℕ → ℕ
drive_fault shape r = shape_fault shape or_else refuse (not (spared shape r)) out_of_range

-- exactly when 1 is given for a revectored drive
abbrev pub DriveJudged : Shape → ℕ → ℕ → Type 0
DriveJudged shape r = ShapeJudged shape and_then When out_of_range (Spared shape r → ⊥)

-- the numbers of the drive: l = S − r home sectors of a track, T × r spares, T × l home blocks
abbrev pub drive_of : Shape → ℕ → Drive
drive_of shape r =
    record {
      tracks = tracks_of shape;
      heads = shape.heads;
      l = shape.sectors - r;
      r = r;
      spares = tracks_of shape * r;
      blocks = tracks_of shape * (shape.sectors - r);
    }

-- S, the sectors of a track: its homes and its spares
abbrev pub sectors_per_track : Drive → ℕ
sectors_per_track drive = drive.l + drive.r

-- block b: track b / l, sector b mod l
abbrev pub home_sector : Drive → ℕ → ℕ
home_sector drive b = b / drive.l * sectors_per_track drive + b % drive.l

-- spare q: track q / r, sector l + q mod r
abbrev pub spare_sector : Drive → ℕ → ℕ
spare_sector drive q = q / drive.r * sectors_per_track drive + (drive.l + q % drive.r)

-- the cylinder of a block's home, and of a spare
abbrev pub home_cylinder : Drive → ℕ → ℕ
home_cylinder drive b = b / drive.l / drive.heads

abbrev pub spare_cylinder : Drive → ℕ → ℕ
spare_cylinder drive q = q / drive.r / drive.heads
