-- Document 02, Q-10: sectors of 512 or of 576 data bytes, and the mode sector, which says which of the two a drive has. The record `Sizes`, at the end, has a field for each sentence.
-- That every other size is refused 1, before all else, is said by demand 1; so are there and back, changed data, and when each number is given.
use Rattle.std.specs.Prelude.{ℕ, ◌+◌, ◌*◌, ◌<◌, ◌≡◌, Bool, ◌⊎◌, List, [], length, Result, Ok, Err}
use Rattle.std.specs.Borrow.{Bor}
use Rattle.paper.specs.Limits.{image_extra, Size}
use Rattle.paper.specs.declared.Refusal.{Refusal}
use Rattle.paper.specs.declared.Refusal.TheVariants.{OutOfRange, WrongLength, NoMode}
use Rattle.shape.specs.declared.Shape.{Shape}
use Rattle.layout.specs.Layouts.{drive_of}
use Rattle.table.specs.Rules.{Sound}
use Rattle.table.specs.Scratch.{Enough}
use Rattle.image.specs.declared.Head.{Head}
use Rattle.image.specs.Promises as Image
use Rattle.mode.specs.Modes.{SaysSize, FirstSays}
use Rattle.mode.specs.Promises.{Finds}
use Rattle.reading.specs.declared.answers.Spot.{Spot}
use Rattle.reading.specs.Promises as Reading
use Rattle.demands.specs.Incident.{WholeTrack}

-- a size is handed over, and what is lent has the other one
pub record OtherSize (size other : ℕ) : Type 0 where
  pub sized : Size size
  pub other-sized : Size other
  pub differ : other ≡ size → ⊥

-- what is lent with a drive, a table and a block passes as far as the images, and one of the two images is a whole track of the other size
pub record OtherTrack (size other : ℕ) (shape : Shape) (r : ℕ) (t scratch : List ℕ) (b : ℕ) (home spare : List ℕ) : Type 0 where
  pub sizes : OtherSize size other
  pub sound : Sound shape r t
  pub enough : Enough shape r scratch
  pub below : b < (drive_of shape r).blocks
  pub whole : WholeTrack other shape home ⊎ WholeTrack other shape spare

pub record Sizes : Type 0 where
  -- data of the one size is not written at the other: 14, and the room is as it was
  pub other-data :
      (size other block code : ℕ) (bytes : List ℕ) (forced : Bool) (room : List ℕ) → OtherSize size other → length bytes ≡ other →
      (result : Result ℕ Refusal) (after : List ℕ) → Image.Write size block code bytes forced room result after → (result ≡ Err WrongLength) × (after ≡ room)
  -- an image of the one size is refused 14 at the other, by the header's reader and by the verdict, and gives no data
  pub other-header :
      (size other : ℕ) (image : List ℕ) → OtherSize size other → length image ≡ other + image_extra →
      (result : Result Head Refusal) → Image.Header size image result → result ≡ Err WrongLength
  pub other-image :
      (size other : ℕ) (image : List ℕ) (block code : ℕ) → OtherSize size other → length image ≡ other + image_extra →
      (result : Result Unit Refusal) → Image.Judge size image block code result → result ≡ Err WrongLength
  pub other-image-gives-none :
      (size other : ℕ) (image : Bor (List ℕ)) (block code : ℕ) → OtherSize size other → length image.now ≡ other + image_extra →
      (part : Bor (List ℕ)) → Image.Data size image block code part → part.now ≡ []
  -- so is a read of which either track has the other size
  pub other-track :
      (size other : ℕ) (shape : Shape) (r : ℕ) (t scratch : List ℕ) (b : ℕ) (home spare : List ℕ) → OtherTrack size other shape r t scratch b home spare →
      (result : Result Unit Refusal) → Reading.Judge size shape r t scratch b home spare result → result ≡ Err WrongLength
  pub other-track-spot :
      (size other : ℕ) (shape : Shape) (r : ℕ) (t scratch : List ℕ) (b : ℕ) (home spare : List ℕ) → OtherTrack size other shape r t scratch b home spare →
      (result : Result Spot Refusal) → Reading.Spots size shape r t scratch b home spare result → result ≡ Err WrongLength
  pub other-track-gives-none :
      (size other : ℕ) (shape : Shape) (r : ℕ) (t scratch : List ℕ) (b : ℕ) (home spare : Bor (List ℕ)) → OtherTrack size other shape r t scratch b home.now spare.now →
      (part : Bor (List ℕ)) → Reading.Data size shape r t scratch b home spare part → part.now ≡ []
  -- the mode is a size exactly where the copies are some sectors apart, some copy says that size, and no earlier copy says any
  pub mode-first :
      (images : List ℕ) (apart size : ℕ) → Finds images apart (Ok size) → (apart ≡ 0 → ⊥) × FirstSays images apart size
  pub first-mode :
      (images : List ℕ) (apart size : ℕ) → (apart ≡ 0 → ⊥) → FirstSays images apart size → Finds images apart (Ok size)
  -- and so it goes into the other calls as it is
  pub mode-size : (images : List ℕ) (apart size : ℕ) → Finds images apart (Ok size) → Size size
  -- 21 exactly where the copies are some sectors apart and no copy says any size
  pub no-mode-none :
      (images : List ℕ) (apart : ℕ) → Finds images apart (Err NoMode) → (apart ≡ 0 → ⊥) × ((k size : ℕ) → SaysSize images (k * apart) size → ⊥)
  pub none-no-mode :
      (images : List ℕ) (apart : ℕ) → (apart ≡ 0 → ⊥) → ((k size : ℕ) → SaysSize images (k * apart) size → ⊥) → Finds images apart (Err NoMode)
  -- 1 exactly where they are none apart
  pub no-mode-apart : (images : List ℕ) (apart : ℕ) → Finds images apart (Err OutOfRange) → apart ≡ 0
  pub apart-no-mode : (images : List ℕ) → Finds images 0 (Err OutOfRange)
