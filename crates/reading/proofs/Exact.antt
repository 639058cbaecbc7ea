-- A read gives exactly the numbers of its rows, and what is lent shows what was checked where it passes.
-- Assumes nothing.
use Prim.Native.Nat.{ℕ, ◌<◌}
use mathlib.Core.Path.{◌≡◌}
use mathlib.Core.Logic.{◌⊎◌}
use mathlib.Core.List.{List}
use native.Mathlib.Omega.{arith}
use lib.ListN.{length}
use borrow.Author.Tests.{eq-eqb, ne_eqb}
use Rattle.paper.specs.Checks.{refuse}
use Rattle.paper.specs.Exactly.{Exactly, ◌and_then◌}
use Rattle.paper.specs.Refusals.{wrong_length}
use Rattle.paper.proofs.Cases.{by_eq}
use Rattle.paper.proofs.Chain.{or_else-assoc, or_else-first, or_else-next}
use Rattle.paper.proofs.Rows.{Tells, tells-eq, tells-not, row, rows, rows-passed, tells-either}
use Rattle.shape.specs.declared.Shape.{Shape}
use Rattle.layout.specs.declared.Drive.{Drive}
use Rattle.layout.specs.Layouts.{drive_of}
use Rattle.layout.proofs.Sectors.{blocks-few}
use Rattle.table.specs.Rules.{Sound, block_fault, BlockJudged}
use Rattle.table.specs.Scratch.{Enough}
use Rattle.table.specs.Steps.{Obeys}
use Rattle.table.proofs.Exact.{sound-laid, sound-obeys, block-sound, block-below, block-passes, block-exactly}
use Rattle.words.specs.Coded.{code_unit}
use Rattle.image.specs.Image.{contents_fault}
use Rattle.image.proofs.Exact.{sector-exactly}
use Rattle.reading.specs.Tracks.{track_of, sector_in, bytes_in, image_at, image_for, code_for, header_for}
use Rattle.reading.specs.Faults.{other_tracks, lent_fault, block_read_fault}
use Rattle.reading.specs.Judged.{LengthsJudged, LyingJudged, lies, BlockReadJudged}
use Rattle.reading.proofs.Seats.{seated, seated-only, header-says}

-- a block of a drive is one that a header can carry
pub block-few : {shape : Shape} {r : ℕ} {t : List ℕ} {b : ℕ} → Sound shape r t → b < (drive_of shape r).blocks → b < code_unit
block-few sound below = omega (arith, blocks-few (sound-laid sound))

-- what is known of a drive, a table, a block and two images that pass 11, 5 and 14, and 1 before them
pub record Lent (size : ℕ) (shape : Shape) (r : ℕ) (t : List ℕ) (b : ℕ) (home spare : List ℕ) : Type 0 where
  pub sound : Sound shape r t
  pub below : b < (drive_of shape r).blocks
  pub home-long : length home ≡ bytes_in size shape.sectors
  pub spare-long : length spare ≡ bytes_in size shape.sectors

-- of a table that obeys its rules, and a block of so few bits that a header can carry it, the sector image where the block lies gives one number
pub lying-exactly :
    (size : ℕ) (drive : Drive) (t : List ℕ) (b : ℕ) (home spare : List ℕ) → Obeys drive t → b < code_unit →
    Exactly (LyingJudged size drive t b home spare) (contents_fault size (image_for size drive t b home spare) (header_for t b))
lying-exactly size drive t b home spare o few = record { judged = judged; only = only }
  where
    judged : LyingJudged size drive t b home spare (contents_fault size (image_for size drive t b home spare) (header_for t b))
    judged =
        lies (track_of t b home spare) (sector_in drive t b) (code_for t b) (seated drive t b home spare)
        (sector-exactly (image_for size drive t b home spare) size (header_for t b) b (code_for t b) (header-says t b few)).judged

    only : (k : ℕ) → LyingJudged size drive t b home spare k → contents_fault size (image_for size drive t b home spare) (header_for t b) ≡ k
    only k (lies track sector code seat found) =
        let one = seated-only drive t b home spare o seat in
        rw (one.0, one.1)
        ((sector-exactly (image_at size (bytes_in size sector) track) size (header_for t b) b code (rw one.2 at (header-says t b few))).only k found)

module _ (size : ℕ) (shape : Shape) (home spare : List ℕ) where
  tells-other-length : Tells (other_tracks size shape home spare) ((length home ≡ bytes_in size shape.sectors → ⊥) ⊎ (length spare ≡ bytes_in size shape.sectors → ⊥))
  tells-other-length =
      tells-either
      (tells-not (tells-eq (length home) (bytes_in size shape.sectors)))
      (tells-not (tells-eq (length spare) (bytes_in size shape.sectors)))

  lengths-show :
      refuse (other_tracks size shape home spare) wrong_length ≡ 0 →
      (length home ≡ bytes_in size shape.sectors) × (length spare ≡ bytes_in size shape.sectors)
  lengths-show none =
      by_eq (length home) (bytes_in size shape.sectors)
      (λ first.
      by_eq (length spare) (bytes_in size shape.sectors)
      (λ second. (first, second))
      (λ other. let given : wrong_length ≡ 0 = rw (eq-eqb _ _ first, ne_eqb _ _ other) at none in absurd (omega arith)))
      (λ other. let given : wrong_length ≡ 0 = rw (ne_eqb _ _ other) at none in absurd (omega arith))

module _ (size : ℕ) (shape : Shape) (r : ℕ) (t scratch : List ℕ) (b : ℕ) (home spare : List ℕ) where
  pub lent-shows : lent_fault size shape r t scratch b home spare ≡ 0 → Lent size shape r t b home spare
  unfolding lent_fault
  lent-shows none =
      let first = or_else-first (block_fault shape r t scratch b) _ none in
      let lengths = lengths-show size shape home spare (or_else-next (block_fault shape r t scratch b) _ none) in
      record { sound = block-sound shape r t scratch b first; below = block-below shape r t scratch b first; home-long = lengths.0; spare-long = lengths.1 }

  -- and passes where all of that is known and the scratch is long enough
  pub lent-passes : Lent size shape r t b home spare → Enough shape r scratch → lent_fault size shape r t scratch b home spare ≡ 0
  unfolding lent_fault
  lent-passes lent enough =
      rw (
        block-passes shape r t scratch lent.sound enough b lent.below,
        eq-eqb (length home) (bytes_in size shape.sectors) lent.home-long,
        eq-eqb (length spare) (bytes_in size shape.sectors) lent.spare-long,
      )

  pub read-exactly : Exactly (BlockReadJudged size shape r t scratch b home spare) (block_read_fault size shape r t scratch b home spare)
  unfolding block_read_fault lent_fault
  read-exactly =
      rw (or_else-assoc (block_fault shape r t scratch b))
      (rows-passed (BlockJudged shape r t scratch b) (LengthsJudged size shape home spare and_then LyingJudged size (drive_of shape r) t b home spare)
      (block-exactly shape r t scratch b)
      (λ none.
      rows (LengthsJudged size shape home spare) (LyingJudged size (drive_of shape r) t b home spare)
      (row (tells-other-length size shape home spare) wrong_length)
      (lying-exactly size (drive_of shape r) t b home spare (sound-obeys (block-sound shape r t scratch b none))
      (block-few (block-sound shape r t scratch b none) (block-below shape r t scratch b none)))))
