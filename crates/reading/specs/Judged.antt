-- Document 01, "Refusal numbers" and "Sector image", and document 02, Q-4: exactly when each number is given for a read, for any number of data bytes.
use Rattle.std.specs.Prelude.{ℕ, ◌⊎◌, List}
use Rattle.paper.specs.Exactly.{When, ◌and_then◌}
use Rattle.paper.specs.Conditions.{OtherLength}
use Rattle.paper.specs.Refusals.{wrong_length}
use Rattle.shape.specs.declared.Shape.{Shape}
use Rattle.layout.specs.declared.Drive.{Drive}
use Rattle.layout.specs.Layouts.{drive_of}
use Rattle.table.specs.Rules.{BlockJudged}
use Rattle.image.specs.Judged.{ContentsJudged}
use Rattle.reading.specs.Tracks.{Seated, bytes_in, image_at}

-- exactly when 14 is given: either image is not S sector images long
abbrev pub LengthsJudged : ℕ → Shape → List ℕ → List ℕ → ℕ → Type 0
LengthsJudged size shape home spare =
    When wrong_length (OtherLength (bytes_in size shape.sectors) home ⊎ OtherLength (bytes_in size shape.sectors) spare)

-- exactly when each number is given for the sector image where the block lies, whose header is to say the block and the code that the table says
pub data LyingJudged (size : ℕ) (drive : Drive) (t : List ℕ) (b : ℕ) (home spare : List ℕ) : ℕ → Type 0 where
  lies :
      {k : ℕ} (track : List ℕ) (sector code : ℕ) → Seated drive t b home spare track sector code →
      ContentsJudged size (image_at size (bytes_in size sector) track) b code k → LyingJudged size drive t b home spare k

-- exactly when a read of a block gives each number
abbrev pub BlockReadJudged : ℕ → Shape → ℕ → List ℕ → List ℕ → ℕ → List ℕ → List ℕ → ℕ → Type 0
BlockReadJudged size shape r t scratch b home spare =
    BlockJudged shape r t scratch b
    and_then (LengthsJudged size shape home spare
    and_then LyingJudged size (drive_of shape r) t b home spare)
