-- The incident: a block was replaced by a spare of another cylinder. What makes reads of such a block safe: the arm moves the right way, the spare's bytes come back, and an image that was made for the home is not taken for the spare's. All of it is said of either size of a sector's data.
use Rattle.std.specs.Prelude.{ℕ, ◌+◌, ◌%◌, ◌≡◌, Bool, false, List, [], ℤ, pos, ◌+ℤ◌, length, get_or, take, drop, Result}
use Rattle.std.specs.Borrow.{Bor}
use Rattle.paper.specs.Limits.{header_size, image_extra}
use Rattle.paper.specs.Refusals.{other_block}
use Rattle.paper.specs.Answers.{said_verdict}
use Rattle.paper.specs.declared.Refusal.{Refusal}
use Rattle.words.specs.Words.{Bytes}
use Rattle.shape.specs.declared.Shape.{Shape}
use Rattle.layout.specs.Layouts.{drive_of, home_cylinder, spare_cylinder}
use Rattle.table.specs.Scratch.{Enough}
use Rattle.spares.specs.Promises.{ShiftOf, said_shifted}
use Rattle.image.specs.Image.{image_of}
use Rattle.image.specs.Promises.{Lends}
use Rattle.reading.specs.Tracks.{bytes_in}
use Rattle.reading.specs.Promises.{Data, Judge, Spots, said_spot}
use Rattle.demands.specs.Relations.{AllowsOnly}

-- where the sector image of spare q starts in the image of its track: the spare's sector there, l + q mod r, times the length of a sector image
abbrev pub spare_start : ℕ → Shape → ℕ → ℕ → ℕ
spare_start size shape r q = bytes_in size ((drive_of shape r).l + q % r)

-- where its data begins: 16 bytes further
abbrev pub spare_data : ℕ → Shape → ℕ → ℕ → ℕ
spare_data size shape r q = spare_start size shape r q + header_size

-- the bytes of a sector image from a place of a track's image on
abbrev pub image_from : ℕ → ℕ → List ℕ → List ℕ
image_from size start track = take (size + image_extra) (drop start track)

-- the image of a whole track: S sector images
abbrev pub WholeTrack : ℕ → Shape → List ℕ → Type 0
WholeTrack size shape track = length track ≡ bytes_in size shape.sectors

-- two parts that hold the same bytes, and lie at the same place where they hold any
pub record SamePart (part again : Bor (List ℕ)) : Type 0 where
  pub same_bytes : part.now ≡ again.now
  pub same_place : (part.now ≡ [] → ⊥) → part.ref_ptr ≡ again.ref_ptr

-- a read of block b, with scratch that is long enough, is accepted and hands back exactly these bytes, where spare q has them in the second image
pub record HandsBack (size : ℕ) (shape : Shape) (r : ℕ) (t : List ℕ) (b q : ℕ) (home spare : Bor (List ℕ)) (bytes : List ℕ) : Type 0 where
  pub accepted : (scratch : List ℕ) → Enough shape r scratch → AllowsOnly (Judge size shape r t scratch b home.now spare.now) (λ answer. said_verdict answer ≡ 0)
  pub bytes-lent : (scratch : List ℕ) → Enough shape r scratch → AllowsOnly (Data size shape r t scratch b home spare) (Lends spare (spare_data size shape r q) bytes)

-- a read of block b, with scratch that is long enough, is refused with this number and hands back no bytes
pub record Refuses (size : ℕ) (shape : Shape) (r : ℕ) (t : List ℕ) (b : ℕ) (home spare : Bor (List ℕ)) (number : ℕ) : Type 0 where
  pub refused : (scratch : List ℕ) → Enough shape r scratch → AllowsOnly (Judge size shape r t scratch b home.now spare.now) (λ answer. said_verdict answer ≡ number)
  pub none_lent : (scratch : List ℕ) → Enough shape r scratch → AllowsOnly (Data size shape r t scratch b home spare) (λ part. part.now ≡ [])

-- with table t, reads of block b are safe: spare q holds the block, this shift away from its home
pub record Safe (size : ℕ) (shape : Shape) (r : ℕ) (t : List ℕ) (b q : ℕ) (shift : ℤ) : Type 0 where
  -- the shift that is answered, with scratch that is long enough, is this one, with its sign
  pub answers : (scratch : List ℕ) → Enough shape r scratch → AllowsOnly (ShiftOf shape r t scratch b) (λ answer. said_shifted answer ≡ (0, shift))
  -- it leads from the cylinder of the block's home to that of the spare
  pub leads : pos (home_cylinder (drive_of shape r) b) +ℤ shift ≡ pos (spare_cylinder (drive_of shape r) q)
  -- a spot that is answered is in the second image, where the spare's data begins
  pub spots :
      (scratch home spare : List ℕ) →
      AllowsOnly (Spots size shape r t scratch b home spare) (λ answer. (said_spot answer).0 ≡ 0 → said_spot answer ≡ (0, 1, spare_data size shape r q))
  -- a part that is not empty is the data there, in place, whatever the first image holds
  pub lends :
      (scratch : List ℕ) (home spare : Bor (List ℕ)) →
      AllowsOnly (Data size shape r t scratch b home spare)
      (λ part. (part.now ≡ [] → ⊥) → Lends spare (spare_data size shape r q) (take size (drop (spare_data size shape r q) spare.now)) part)
  -- another first image of the same length changes neither the part
  pub same-part :
      (scratch again-scratch : List ℕ) → Enough shape r scratch → Enough shape r again-scratch →
      (home other spare part again : Bor (List ℕ)) → length home.now ≡ length other.now →
      Data size shape r t scratch b home spare part → Data size shape r t again-scratch b other spare again → SamePart part again
  -- nor the verdict
  pub same-verdict :
      (scratch again-scratch : List ℕ) → Enough shape r scratch → Enough shape r again-scratch →
      (home other spare : List ℕ) (verdict again : Result Unit Refusal) → length home ≡ length other →
      Judge size shape r t scratch b home spare verdict → Judge size shape r t again-scratch b other spare again → verdict ≡ again
  -- where a good image of the block stands on the spare, with the block's descriptor for its header, exactly its data comes back, also where the home still has a good image with older data
  pub gives_back :
      (home spare : Bor (List ℕ)) (bytes : List ℕ) → WholeTrack size shape home.now → WholeTrack size shape spare.now →
      length bytes ≡ size → Bytes bytes → image_from size (spare_start size shape r q) spare.now ≡ image_of (get_or t q 0) bytes false →
      HandsBack size shape r t b q home spare bytes
  -- an image that was made for the block's home, good or forced, and stands on the spare as it is, is refused 16
  pub refuses-moved :
      (home spare : Bor (List ℕ)) (bytes : List ℕ) (forced : Bool) → WholeTrack size shape home.now → WholeTrack size shape spare.now →
      image_from size (spare_start size shape r q) spare.now ≡ image_of b bytes forced →
      Refuses size shape r t b home spare other_block
