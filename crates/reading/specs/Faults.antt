-- Document 01, "Sector image", and document 02, Q-6 and Q-4: the checks of a read, for any number of data bytes.
use Rattle.std.specs.Prelude.{ℕ, Bool, not, ◌||◌, List, eqb, length}
use Rattle.paper.specs.Checks.{refuse, ◌or_else◌}
use Rattle.paper.specs.Refusals.{wrong_length}
use Rattle.shape.specs.declared.Shape.{Shape}
use Rattle.layout.specs.Layouts.{drive_of}
use Rattle.table.specs.Rules.{block_fault}
use Rattle.image.specs.Image.{contents_fault}
use Rattle.reading.specs.Tracks.{bytes_in, image_for, header_for}

-- either image is not that of a whole track
abbrev pub other_tracks : ℕ → Shape → List ℕ → List ℕ → Bool
other_tracks size shape home spare =
    not (eqb (length home) (bytes_in size shape.sectors)) || not (eqb (length spare) (bytes_in size shape.sectors))

-- 1, 7, 11, 5, 14: checks of what is lent
unfoldable pub lent_fault : ℕ → Shape → ℕ → List ℕ → List ℕ → ℕ → List ℕ → List ℕ → ℕ
lent_fault size shape r t scratch b home spare = block_fault shape r t scratch b or_else refuse (other_tracks size shape home spare) wrong_length

-- 15 to 18: checks of the sector image that the block lies on
abbrev pub lying_fault : ℕ → Shape → ℕ → List ℕ → ℕ → List ℕ → List ℕ → ℕ
lying_fault size shape r t b home spare =
    contents_fault size (image_for size (drive_of shape r) t b home spare) (header_for t b)

-- 1, 7, 11, 5, 14, 15 to 18: checks of a read of a block
unfoldable pub block_read_fault : ℕ → Shape → ℕ → List ℕ → List ℕ → ℕ → List ℕ → List ℕ → ℕ
block_read_fault size shape r t scratch b home spare = lent_fault size shape r t scratch b home spare or_else lying_fault size shape r t b home spare
