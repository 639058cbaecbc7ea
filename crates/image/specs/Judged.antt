-- Document 01, "Refusal numbers" and "Sector image", and document 02, Q-4: exactly when each number is given for an image, for any number of data bytes.
use Rattle.std.specs.Prelude.{ℕ, ◌+◌, ◌≡◌, List}
use Rattle.paper.specs.Exactly.{When, ◌and_then◌}
use Rattle.paper.specs.Conditions.{NotBelow, NoRoom, OtherLength}
use Rattle.paper.specs.Limits.{image_extra}
use Rattle.paper.specs.Refusals.{no_such_block, no_room, wrong_length, no_address, other_block, forced_error, bad_code, unknown_code}
use Rattle.words.specs.Coded.{code_unit, code_of}
use Rattle.image.specs.Code.{complement}
use Rattle.image.specs.Header.{Known, Says}
use Rattle.image.specs.Image.{Stands, stored_in, found_in}

-- exactly when 14 is given for bytes that must have a length
abbrev pub LengthJudged : ℕ → List ℕ → ℕ → Type 0
LengthJudged long bytes = When wrong_length (OtherLength long bytes)

-- exactly when 15 is given for a header
abbrev pub CopiesJudged : List ℕ → ℕ → Type 0
CopiesJudged image = When no_address ((m : ℕ) → Stands image m → ⊥)

-- the stored code is the one that the data has
abbrev pub GoodCode : ℕ → List ℕ → Type 0
GoodCode size image = stored_in size image ≡ found_in size image

-- the stored code is its complement
abbrev pub ForcedCode : ℕ → List ℕ → Type 0
ForcedCode size image = stored_in size image ≡ complement (found_in size image)

-- a number stands in the header that says this code and this block
pub record HeadSays (image : List ℕ) (code block : ℕ) : Type 0 where
  pub number : ℕ
  pub stands : Stands image number
  pub says : Says number code block

-- exactly when each number is given for an image of the right length whose header is to say a block and a code
pub data ContentsJudged (size : ℕ) (image : List ℕ) (block code : ℕ) : ℕ → Type 0 where
  no-address : ((m : ℕ) → Stands image m → ⊥) → ContentsJudged size image block code no_address
  other-block : (m : ℕ) → Stands image m → (Says m code block → ⊥) → ContentsJudged size image block code other_block
  good : HeadSays image code block → GoodCode size image → ContentsJudged size image block code 0
  forced : HeadSays image code block → ForcedCode size image → ContentsJudged size image block code forced_error
  neither : HeadSays image code block → (GoodCode size image → ⊥) → (ForcedCode size image → ⊥) → ContentsJudged size image block code bad_code

-- a number stands in the header, and its code is none of the three
pub record FourthCode (image : List ℕ) : Type 0 where
  pub number : ℕ
  pub stands : Stands image number
  pub fourth : Known (code_of number) → ⊥

-- exactly when the header's reader gives each number
abbrev pub HeaderJudged : ℕ → List ℕ → ℕ → Type 0
HeaderJudged size image =
    LengthJudged (size + image_extra) image
    and_then (CopiesJudged image
    and_then When other_block (FourthCode image))

-- exactly when the verdict is each number
abbrev pub ImageJudged : ℕ → List ℕ → ℕ → ℕ → ℕ → Type 0
ImageJudged size image block code = LengthJudged (size + image_extra) image and_then ContentsJudged size image block code

-- exactly when the writer gives each number
abbrev pub WriteJudged : ℕ → ℕ → ℕ → List ℕ → List ℕ → ℕ → Type 0
WriteJudged size block code bytes room =
    LengthJudged size bytes
    and_then (When no_such_block (NotBelow code_unit block)
    and_then (When unknown_code (Known code → ⊥)
    and_then When no_room (NoRoom (size + image_extra) room)))
