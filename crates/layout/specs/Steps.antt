-- For the code alone: no sentence of the paper needs it.
-- The part of the check after that of the shape, and what is known of a drive that passes its check.
use Rattle.std.specs.Prelude.{ℕ, ◌*◌, ◌≤◌, ◌≡◌, not}
use Rattle.paper.specs.Checks.{refuse}
use Rattle.paper.specs.Refusals.{out_of_range}
use Rattle.paper.specs.Limits.{units_most, spares_most}
use Rattle.shape.specs.declared.Shape.{Shape}
use Rattle.layout.specs.declared.Drive.{Drive}
use Rattle.layout.specs.Layouts.{spared, sectors_per_track}

-- the check of r and T × r
abbrev pub spared_fault : Shape → ℕ → ℕ
spared_fault shape r = refuse (not (spared shape r)) out_of_range

-- a drive has tracks, heads, homes and spares of a track, its spares and blocks are the two products, and its spares and sectors are no more than a drive may have
pub record Laid (drive : Drive) : Type 0 where
  pub heads-some : 1 ≤ drive.heads
  pub home_some : 1 ≤ drive.l
  pub spare-some : 1 ≤ drive.r
  pub tracks-some : 1 ≤ drive.tracks
  pub are-spares : drive.spares ≡ drive.tracks * drive.r
  pub are-blocks : drive.blocks ≡ drive.tracks * drive.l
  pub spares-fit : drive.spares ≤ spares_most
  pub sectors-fit : drive.tracks * sectors_per_track drive ≤ units_most
