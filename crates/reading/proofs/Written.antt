-- A read of a block whose sector holds a written image of it, with the header that the table says, answers as it was written, whatever stands elsewhere in either track, a stale image at home included; with any other header it is refused 16.
-- Assumes nothing.
use Prim.Native.Nat.{ℕ, ◌+◌, ◌^◌, ◌<◌, ◌≤◌}
use mathlib.Core.Path.{◌≡◌, sym, ◌∙◌}
use mathlib.Core.Bool.{Bool, true, false}
use mathlib.Core.List.{List, []}
use native.Mathlib.Omega.{arith}
use lib.ListN.{length}
use lib.Seq.{sets}
use denote.Ref.{Bor}
use Rattle.paper.specs.Limits.{image_extra}
use Rattle.paper.specs.Refusals.{other_block, forced_error}
use Rattle.words.specs.Words.{Bytes}
use Rattle.words.proofs.Stores.{part-sets}
use Rattle.shape.specs.declared.Shape.{Shape}
use Rattle.layout.specs.Layouts.{drive_of}
use Rattle.image.specs.Image.{image_of}
use Rattle.words.proofs.Coded.{word_fits}
use Rattle.image.proofs.Headers.{known-few}
use Rattle.image.proofs.Exact.{sector-other}
use Rattle.image.proofs.Images.{length-image, written_stands, written-data, written-good, written-forced}
use Rattle.reading.specs.Tracks.{Seated, bytes_in, image_at, image_for, header_for}
use Rattle.reading.specs.Faults.{lent_fault, block_read_fault}
use Rattle.reading.specs.Promises.{DataSized}
use Rattle.reading.proofs.Seats.{seated-only, code-known}
use Rattle.table.proofs.Exact.{sound-obeys}
use Rattle.reading.proofs.Exact.{block-few, Lent, lent-shows}
use Rattle.reading.proofs.Spots.{read_lying}
use Rattle.reading.proofs.Parts.{refused-empty, accepted-data}

-- an image that is stored at a place of a track is the sector image there
pub image-stored :
    (start : ℕ) (track : List ℕ) (number : ℕ) (bytes : List ℕ) (forced : Bool) → start + (length bytes + image_extra) ≤ length track →
    image_at (length bytes) start (sets track start (image_of number bytes forced)) ≡ image_of number bytes forced
unfolding image_at
image-stored start track number bytes forced inside =
    let long = length-image number bytes forced in
    rw long at (part-sets track start (image_of number bytes forced) (rw long inside))

-- the header of a block fits its copies
pub header-fits :
    {size : ℕ} {shape : Shape} {r : ℕ} {t : List ℕ} {b : ℕ} {home spare : List ℕ} → Lent size shape r t b home spare → header_for t b < 2 ^ 32
unfolding header_for
header-fits {t = t} {b = b} lent = word_fits (known-few (code-known t b)) (block-few lent.sound lent.below)

module _ (size : ℕ) (shape : Shape) (r : ℕ) (t scratch : List ℕ) (b : ℕ) where
  -- the sector image where a block lies
  lies-there :
      {home spare track : List ℕ} {sector code : ℕ} {image : List ℕ} → lent_fault size shape r t scratch b home spare ≡ 0 →
      Seated (drive_of shape r) t b home spare track sector code → image_at size (bytes_in size sector) track ≡ image →
      image_for size (drive_of shape r) t b home spare ≡ image
  lies-there {home} {spare} {track} {sector} {code} none seat held =
      let one = seated-only (drive_of shape r) t b home spare (sound-obeys (lent-shows size shape r t scratch b home spare none).sound) seat in
      rw (one.0, one.1) held

  module _ (bytes : List ℕ) (long : length bytes ≡ size) (h : Bytes bytes) where
    module _
        {home spare track : List ℕ}
        {sector code : ℕ}
        (none : lent_fault size shape r t scratch b home spare ≡ 0)
        (seat : Seated (drive_of shape r) t b home spare track sector code)
      where
        -- good as it was written
        pub good-read : image_at size (bytes_in size sector) track ≡ image_of (header_for t b) bytes false → block_read_fault size shape r t scratch b home spare ≡ 0
        good-read held =
            read_lying size shape r t scratch b home spare none
            ∙ rw (lies-there none seat held, ← long) (written-good (header_for t b) bytes (header-fits (lent-shows size shape r t scratch b home spare none)) h)

        -- or forced
        pub forced-read : image_at size (bytes_in size sector) track ≡ image_of (header_for t b) bytes true → block_read_fault size shape r t scratch b home spare ≡ forced_error
        forced-read held =
            read_lying size shape r t scratch b home spare none
            ∙ rw (lies-there none seat held, ← long) (written-forced (header_for t b) bytes (header-fits (lent-shows size shape r t scratch b home spare none)) h)

    module _
        (home spare part : Bor (List ℕ))
        (given-part : DataSized size shape r t scratch b home spare part)
        {track : List ℕ}
        {sector code : ℕ}
        (none : lent_fault size shape r t scratch b home.now spare.now ≡ 0)
        (seat : Seated (drive_of shape r) t b home.now spare.now track sector code)
      where
        -- exactly the data comes back, or an empty part
        pub good-part : image_at size (bytes_in size sector) track ≡ image_of (header_for t b) bytes false → part.now ≡ bytes
        good-part held =
            accepted-data size shape r t scratch b home spare part given-part (good-read none seat held)
            ∙ rw (lies-there none seat held, ← long) (written-data (header_for t b) bytes false)

        pub forced-part : image_at size (bytes_in size sector) track ≡ image_of (header_for t b) bytes true → part.now ≡ []
        forced-part held =
            refused-empty size shape r t scratch b home spare part given-part
            (λ passed. let same : forced_error ≡ 0 = sym (forced-read none seat held) ∙ passed in omega arith)

  -- with another number in the header the read is refused 16, and the part is empty
  module _ (bytes : List ℕ) (number : ℕ) (forced : Bool) (fits : number < 2 ^ 32) (other : number ≡ header_for t b → ⊥) where
    pub other-read :
        {home spare track : List ℕ} {sector code : ℕ} → lent_fault size shape r t scratch b home spare ≡ 0 → Seated (drive_of shape r) t b home spare track sector code →
        image_at size (bytes_in size sector) track ≡ image_of number bytes forced → block_read_fault size shape r t scratch b home spare ≡ other_block
    other-read {home} {spare} none seat held =
        read_lying size shape r t scratch b home spare none
        ∙ rw (lies-there none seat held) (sector-other (image_of number bytes forced) size (header_for t b) number (written_stands number bytes forced fits) other)

    pub other-part :
        (home spare part : Bor (List ℕ)) → DataSized size shape r t scratch b home spare part → {track : List ℕ} {sector code : ℕ} →
        lent_fault size shape r t scratch b home.now spare.now ≡ 0 → Seated (drive_of shape r) t b home.now spare.now track sector code →
        image_at size (bytes_in size sector) track ≡ image_of number bytes forced → part.now ≡ []
    other-part home spare part given-part none seat held =
        refused-empty size shape r t scratch b home spare part given-part
        (λ passed. let same : other_block ≡ 0 = sym (other-read none seat held) ∙ passed in omega arith)
