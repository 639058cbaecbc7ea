-- Each chain of checks of `spares` gives exactly the numbers of its rows.
-- Assumes nothing.
use Prim.Native.Nat.{ℕ, ◌*◌, ◌<◌, ◌≤◌}
use mathlib.Core.List.{List}
use Rattle.paper.specs.Refusals.{no_such_sector, no_spare}
use Rattle.paper.specs.Exactly.{Exactly, When}
use Rattle.paper.proofs.Rows.{tells-le, row, rows, rows-passed}
use Rattle.shape.specs.declared.Shape.{Shape}
use Rattle.shape.specs.Shapes.{size_of}
use Rattle.shape.specs.Addresses.{OffDriveJudged}
use Rattle.shape.proofs.Exact.{place-exactly}
use Rattle.layout.specs.Layouts.{Spared, drive_of, sectors_per_track}
use Rattle.layout.proofs.Layings.{drive-whole}
use Rattle.table.specs.Rules.{TableJudged, BlockJudged}
use Rattle.table.proofs.Exact.{sound-laid, sound-obeys, table-exactly, block-sound, block-below, block-exactly}
use Rattle.replacing.specs.Replacing.{NoneFree}
use Rattle.replacing.proofs.Replacements.{tells-none-free}
use Rattle.spares.specs.Spares.{block_on_fault, block_at_fault, replace_fault, BlockOnJudged, BlockAtJudged, ReplaceJudged}

-- a sector below N is one of the layout's
pub sector-within : {shape : Shape} {r s : ℕ} → Spared shape r → s < size_of shape → s < (drive_of shape r).tracks * sectors_per_track (drive_of shape r)
sector-within drives below = rw (drive-whole drives) below

module _ (shape : Shape) (r : ℕ) (t scratch : List ℕ) where
  pub replace-exactly : (b : ℕ) → Exactly (ReplaceJudged shape r t scratch b) (replace_fault shape r t scratch b)
  replace-exactly b =
      rows-passed (BlockJudged shape r t scratch b) (When no_spare (NoneFree t)) (block-exactly shape r t scratch b)
      (λ none.
      let sound = block-sound shape r t scratch b none in
      row (tells-none-free (sound-laid sound) (sound-obeys sound) (block-below shape r t scratch b none)) no_spare)

  pub block-on-exactly : (s : ℕ) → Exactly (BlockOnJudged shape r t scratch s) (block_on_fault shape r t scratch s)
  block-on-exactly s =
      rows (TableJudged shape r t scratch) (When no_such_sector (size_of shape ≤ s)) (table-exactly shape r t scratch) (row (tells-le (size_of shape) s) no_such_sector)

  pub block-at-exactly : (cylinder head sector : ℕ) → Exactly (BlockAtJudged shape r t scratch cylinder head sector) (block_at_fault shape r t scratch cylinder head sector)
  block-at-exactly cylinder head sector =
      rows (TableJudged shape r t scratch) (OffDriveJudged shape cylinder head sector) (table-exactly shape r t scratch) (place-exactly shape cylinder head sector)
