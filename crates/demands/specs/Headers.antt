-- Document 02, Q-4: a header tells a block at home (code 0) from one that is replaced at its primary (2) or elsewhere (3). The record `Headers`, at the end, has a field for each sentence. All of it is said of either size of a sector's data.
use Rattle.std.specs.Prelude.{ℕ, ◌+◌, ◌<◌, ◌≡◌, Bool, true, false, ◌⊎◌, List, [], ◌++◌, length, get_or, take, replicate, Result, Ok, Err}
use Rattle.std.specs.Borrow.{Bor}
use Rattle.paper.specs.Conditions.{NotBelow}
use Rattle.paper.specs.Limits.{image_extra, Size}
use Rattle.paper.specs.declared.Refusal.{Refusal}
use Rattle.paper.specs.declared.Refusal.TheVariants.{OtherBlock, ForcedError}
use Rattle.words.specs.Coded.{code_unit, word_of, code_of}
use Rattle.words.specs.Words.{bytes16, bytes_of, Bytes}
use Rattle.shape.specs.declared.Shape.{Shape}
use Rattle.layout.specs.Descriptors.{Names}
use Rattle.table.specs.Lookup.{Replaced}
use Rattle.table.specs.Scratch.{Enough}
use Rattle.spares.specs.Promises.{SectorOf}
use Rattle.image.specs.Code.{carried}
use Rattle.image.specs.Header.{at_home, Known}
use Rattle.image.specs.Image.{copies_made, Stands, image_of}
use Rattle.image.specs.Judged.{FourthCode}
use Rattle.image.specs.Promises.{Write, Judge}
use Rattle.reading.specs.Promises as Reading
use Rattle.demands.specs.Incident.{image_from, WholeTrack}
use Rattle.demands.specs.Reads.{LiesIn, start_at}

-- the number that the header of a block's sector is to carry: the block's own at home, and the descriptor that names it on a spare
pub data Expected (t : List ℕ) (b : ℕ) : ℕ → Type 0 where
  own : (Replaced t b → ⊥) → Expected t b b
  descriptor : (q : ℕ) → q < length t → Names (get_or t q 0) b → Expected t b (get_or t q 0)

-- a sector has so many data bytes, and block b lies on one, as `spares::sector_of` has answered with the scratch `asked`, in one of two whole track images, and an image of these bytes with this number in its header stands there
pub record Holding (size : ℕ) (shape : Shape) (r : ℕ) (t : List ℕ) (b : ℕ) (home spare : List ℕ) (number : ℕ) (bytes : List ℕ) (forced : Bool) : Type 0 where
  pub sized : Size size
  pub asked : List ℕ
  pub sector : ℕ
  pub lies-on : SectorOf shape r t asked b (Ok sector)
  pub track : List ℕ
  pub lies_in : LiesIn t b home spare track
  pub home-whole : WholeTrack size shape home
  pub spare-whole : WholeTrack size shape spare
  pub long : length bytes ≡ size
  pub stands : image_from size (start_at size shape sector) track ≡ image_of number bytes forced

-- the request, a field for each sentence; that a header answers code and block, and when each number is given, is said by demand 1
pub record Headers : Type 0 where
  -- an image with code 0 keeps its bytes: four copies of the block's plain number, the data, and the code of the data or its complement
  pub home-plain :
      (size block : ℕ) (bytes : List ℕ) (forced : Bool) (room : List ℕ) (long : ℕ) (after : List ℕ) →
      Write size block at_home bytes forced room (Ok long) after →
      take long after ≡ bytes_of (replicate copies_made block) ++ (bytes ++ bytes16 (carried forced bytes))
  -- where a fourth code is expected, or a block of 2²⁸ or more, the verdict is 16, whatever number stands in the header
  pub never_met :
      (size : ℕ) → Size size → (image : List ℕ) (block code : ℕ) → (Known code → ⊥) ⊎ NotBelow code_unit block →
      (m : ℕ) → Stands image m → length image ≡ size + image_extra →
      (verdict : Result Unit Refusal) → Judge size image block code verdict → verdict ≡ Err OtherBlock
  -- where a number with a fourth code stands in the header the verdict is 16, whatever is expected
  pub fourth-refused :
      (size : ℕ) → Size size → (image : List ℕ) (block code : ℕ) → FourthCode image → length image ≡ size + image_extra →
      (verdict : Result Unit Refusal) → Judge size image block code verdict → verdict ≡ Err OtherBlock
  -- a block whose sector holds a good image with the expected header is judged good, and its data is handed back
  pub expected-good :
      (size : ℕ) (shape : Shape) (r : ℕ) (t judged : List ℕ) (b : ℕ) (home spare : List ℕ) (number : ℕ) (bytes : List ℕ) →
      Expected t b number → Bytes bytes → Holding size shape r t b home spare number bytes false → Enough shape r judged →
      (verdict : Result Unit Refusal) → Reading.Judge size shape r t judged b home spare verdict → verdict ≡ Ok tt
  pub expected-gives :
      (size : ℕ) (shape : Shape) (r : ℕ) (t read : List ℕ) (b : ℕ) (home spare : Bor (List ℕ)) (number : ℕ) (bytes : List ℕ) →
      Expected t b number → Bytes bytes → Holding size shape r t b home.now spare.now number bytes false → Enough shape r read →
      (part : Bor (List ℕ)) → Reading.Data size shape r t read b home spare part → part.now ≡ bytes
  -- one whose image was written forced is a forced error, and no data is handed back
  pub expected-forced :
      (size : ℕ) (shape : Shape) (r : ℕ) (t judged : List ℕ) (b : ℕ) (home spare : List ℕ) (number : ℕ) (bytes : List ℕ) →
      Expected t b number → Bytes bytes → Holding size shape r t b home spare number bytes true → Enough shape r judged →
      (verdict : Result Unit Refusal) → Reading.Judge size shape r t judged b home spare verdict → verdict ≡ Err ForcedError
  pub forced-gives-none :
      (size : ℕ) (shape : Shape) (r : ℕ) (t read : List ℕ) (b : ℕ) (home spare : Bor (List ℕ)) (number : ℕ) (bytes : List ℕ) →
      Expected t b number → Bytes bytes → Holding size shape r t b home.now spare.now number bytes true → Enough shape r read →
      (part : Bor (List ℕ)) → Reading.Data size shape r t read b home spare part → part.now ≡ []
  -- with another code of four bits than the table says, one of the three or a fourth, it is refused 16, and no data is handed back
  pub other-code :
      (size : ℕ) (shape : Shape) (r : ℕ) (t judged : List ℕ) (b : ℕ) (home spare : List ℕ) (number code : ℕ) (bytes : List ℕ) (forced : Bool) →
      Expected t b number → code < 16 → (code_of number ≡ code → ⊥) → Holding size shape r t b home spare (word_of code b) bytes forced → Enough shape r judged →
      (verdict : Result Unit Refusal) → Reading.Judge size shape r t judged b home spare verdict → verdict ≡ Err OtherBlock
  pub other-gives-none :
      (size : ℕ) (shape : Shape) (r : ℕ) (t read : List ℕ) (b : ℕ) (home spare : Bor (List ℕ)) (number code : ℕ) (bytes : List ℕ) (forced : Bool) →
      Expected t b number → code < 16 → (code_of number ≡ code → ⊥) → Holding size shape r t b home.now spare.now (word_of code b) bytes forced → Enough shape r read →
      (part : Bor (List ℕ)) → Reading.Data size shape r t read b home spare part → part.now ≡ []
