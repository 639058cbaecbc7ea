-- What a read sees of a drive's sectors: the image of a track is that of its sectors one after another, each of the same length, so that the sector image which the read looks into, in the tracks that `reading::tracks` names, is the one on the sector that the block lies on.
-- Assumes nothing.
use Prim.Native.Nat.{ℕ, zero, suc, ◌+◌, ◌%◌, ◌<◌}
use mathlib.Core.Path.{◌≡◌, sym, ◌∙◌, ap}
use mathlib.Core.Bool.{true, false}
use mathlib.Core.List.{List, []}
use native.Mathlib.Nat.{mod-lt}
use native.Mathlib.Omega.{arith}
use lib.ListN.{length, length-append}
use Rattle.std.specs.Prelude.{Ok}
use lib.Seq.{take_at, drop-append-add}
use denote.Ref.{Bor}
use Rattle.paper.specs.Checks.{◌or_else◌}
use Rattle.paper.specs.Limits.{image_extra, Size, data_size_fault}
use Rattle.paper.specs.Refusals.{forced_error}
use Rattle.paper.proofs.Cases.{by_bool, by_fault}
use Rattle.paper.proofs.Chain.{or_else-first, or_else-next}
use Rattle.paper.specs.declared.Refusal.TheVariants.{ForcedError}
use Rattle.paper.proofs.Rows.{data-size-passes}
use Rattle.words.specs.Words.{Bytes}
use Rattle.shape.specs.declared.Shape.{Shape}
use Rattle.shape.specs.declared.Address.{Address}
use Rattle.shape.specs.Shapes.{Shaped, size_of}
use Rattle.shape.specs.Addresses.{sector_at, address_at}
use Rattle.shape.proofs.Inverse.{there_and_back}
use Rattle.layout.specs.declared.Drive.{Drive}
use Rattle.layout.specs.Layouts.{drive_of}
use Rattle.layout.proofs.Layings.{track-whole}
use Rattle.table.specs.Lookup.{lies_on, is_replaced}
use Rattle.table.specs.Rules.{Sound, block_fault}
use Rattle.table.specs.Scratch.{Enough}
use Rattle.table.proofs.Lookups.{tells-replaced}
use Rattle.table.proofs.Exact.{sound-laid, block-sound, block-below}
use Rattle.arm.proofs.Shifts.{shift-reaches}
use Rattle.image.specs.Image.{image_of, data_of, contents_fault, image_fault}
use Rattle.image.specs.Promises.{Judge as JudgeImage}
use Rattle.image.proofs.Exact.{image-pair, pair-says}
use Rattle.reading.specs.Tracks.{Seated, bytes_in, image_at, image_for, sector_in, track_of, code_for, header_for}
use Rattle.reading.specs.Faults.{lent_fault, block_read_fault}
use Rattle.reading.specs.Promises.{TracksOf, track_at, pair_of, Data}
use Rattle.reading.specs.declared.answers.Track.{Track}
use Rattle.reading.specs.declared.answers.Pair.{Pair}
use Rattle.reading.proofs.Exact.{Lent, block-few, lent-passes}
use Rattle.reading.proofs.Parts.{data-refused, data-accepted}
use Rattle.reading.proofs.Spots.{read-shows}
use Rattle.reading.proofs.Seats.{seated, sector-lies, header-says}
use Rattle.reading.proofs.Written.{good-read, forced-read, good-part, forced-part}
use Rattle.demands.specs.Incident.{Refuses}
use Rattle.demands.specs.Ledgers.{Contents, Whole}
use Rattle.demands.specs.NeverStale.{images_from, track_image, Fetched, Leads, Answers, GoodImage}
use Rattle.demands.proofs.Demand2Revectored.{lies-inside}
use Rattle.demands.proofs.ReadsInPlace.{lent-in-place}
use Rattle.demands.proofs.Incident.{allows-passed, allows-refused, allows-part}

module _ (size : ℕ) (held : Contents) (whole : Whole size held) where
  -- images one after another
  images-long : (first count : ℕ) → length (images_from held first count) ≡ bytes_in size count
  unfolding images_from
  images-long first zero = omega arith
  images-long first (suc count) = length-append (held first) (images_from held (suc first) count) ∙ omega (arith, whole first, images-long (suc first) count)

  image-among : (first count k : ℕ) → k < count → image_at size (bytes_in size k) (images_from held first count) ≡ held (first + k)
  unfolding images_from image_at
  image-among first zero k below = absurd (omega arith)
  image-among first (suc count) zero below =
      let none : bytes_in size 0 ≡ 0 = omega arith in
      rw none
      (take_at (held first) (images_from held (suc first) count) (size + image_extra) (whole first) ∙ ap held (omega arith))
  image-among first (suc count) (suc k) below =
      let further : bytes_in size (suc k) ≡ length (held first) + bytes_in size k = omega (arith, whole first) in
      rw (further, drop-append-add (held first) (images_from held (suc first) count) (bytes_in size k))
      (image-among (suc first) count k (omega arith) ∙ ap held (omega arith))

  module _ (shape : Shape) (shaped : Shaped shape) where
    -- the image of a track is whole
    pub track-long : (track : Track) → length (track_image shape held track) ≡ bytes_in size shape.sectors
    track-long track = images-long (sector_at shape track.cylinder track.head 0) shape.sectors

    -- and that of a sector stands in the image of its track
    pub image-on : (s : ℕ) → s < size_of shape → image_at size (bytes_in size (s % shape.sectors)) (track_image shape held (track_at shape s)) ≡ held s
    image-on s inside =
        let some : 0 < shape.sectors = omega arith in
        let first = sector_at shape (address_at shape s).cylinder (address_at shape s).head 0 in
        let back : first + s % shape.sectors ≡ s = omega (arith, there_and_back shaped inside) in
        image-among first shape.sectors (s % shape.sectors) (mod-lt s some) ∙ ap held back

-- tracks that are named pass the check, and are those of the definition
module _ (shape : Shape) (r : ℕ) (t asked : List ℕ) (b : ℕ) (pair : Pair) (named : TracksOf shape r t asked b (Ok pair)) where
  pub named-passes : block_fault shape r t asked b ≡ 0
  named-passes = named.0

  pub named-sound : Sound shape r t
  named-sound = block-sound shape r t asked b named-passes

  pub named-below : b < (drive_of shape r).blocks
  named-below = block-below shape r t asked b named-passes

  pub named-pair : pair ≡ pair_of shape r t b
  named-pair = named.1

-- two images that are fetched as they were named
module _ (size : ℕ) (shape : Shape) (r : ℕ) (t : List ℕ) (held : Contents) (b : ℕ) (home spare : List ℕ) (whole : Whole size held) (fetched : Fetched shape r t held b home spare) where
  abbrev drive : Drive
  drive = drive_of shape r

  pub fetched-sound : Sound shape r t
  fetched-sound = named-sound shape r t fetched.asked b fetched.pair fetched.named

  pub fetched-below : b < drive.blocks
  fetched-below = named-below shape r t fetched.asked b fetched.pair fetched.named

  pub fetched-pair : fetched.pair ≡ pair_of shape r t b
  fetched-pair = named-pair shape r t fetched.asked b fetched.pair fetched.named

  -- they are whole
  pub fetched-lent : Lent size shape r t b home spare
  fetched-lent =
      record {
        sound = fetched-sound;
        below = fetched-below;
        home-long = rw fetched.home-is (track-long size held whole shape fetched-sound.shaped fetched.pair.home);
        spare-long = rw fetched.spare-is (track-long size held whole shape fetched-sound.shaped fetched.pair.there);
      }

  -- the one that the block lies in is that of the track of its sector
  fetched-track : track_of t b home spare ≡ track_image shape held (track_at shape (lies_on drive t b))
  fetched-track =
      by_bool (is_replaced t b)
      (λ e. rw (e, fetched.spare-is, fetched-pair, e))
      (λ e. rw (e, fetched.home-is, fetched-pair))

  -- so the sector image that a read looks into is the one on that sector
  pub fetched-image : image_for size drive t b home spare ≡ held (lies_on drive t b)
  fetched-image =
      let sector : sector_in drive t b ≡ lies_on drive t b % shape.sectors =
      sector-lies drive t b (sound-laid fetched-sound) ∙ ap (λ (n : ℕ). lies_on drive t b % n) (track-whole fetched-sound.spared) in
      rw (sector, fetched-track) (image-on size held whole shape fetched-sound.shaped (lies_on drive t b) (lies-inside fetched-sound b fetched-below))

-- a read of a block whose sector holds an image that was made for it, lent the two tracks
module _
    (size : ℕ)
    (sized : Size size)
    (shape : Shape)
    (r : ℕ)
    (t : List ℕ)
    (held : Contents)
    (whole : Whole size held)
    (b : ℕ)
    (home spare : Bor (List ℕ))
    (fetched : Fetched shape r t held b home.now spare.now)
    (bytes : List ℕ)
    (long : length bytes ≡ size)
    (are-bytes : Bytes bytes)
  where
    abbrev seat : Seated (drive_of shape r) t b home.now spare.now (track_of t b home.now spare.now) (sector_in (drive_of shape r) t b) (code_for t b)
    seat = seated (drive_of shape r) t b home.now spare.now

    abbrev image-seen : image_for size (drive_of shape r) t b home.now spare.now ≡ held (lies_on (drive_of shape r) t b)
    image-seen = fetched-image size shape r t held b home.now spare.now whole fetched

    module _ (scratch : List ℕ) (enough : Enough shape r scratch) where
      lends : lent_fault size shape r t scratch b home.now spare.now ≡ 0
      lends = lent-passes size shape r t scratch b home.now spare.now (fetched-lent size shape r t held b home.now spare.now whole fetched) enough

    -- good data comes back, in place
    pub good-answers : held (lies_on (drive_of shape r) t b) ≡ image_of (header_for t b) bytes false → Answers size shape r t b home spare bytes
    good-answers stands =
        let passes : (scratch : List ℕ) → Enough shape r scratch → block_read_fault size shape r t scratch b home.now spare.now ≡ 0 =
        λ scratch enough. good-read size shape r t scratch b bytes long are-bytes (lends scratch enough) seat (image-seen ∙ stands) in
        record {
          accepted = λ scratch enough.
              allows-passed (data_size_fault size or_else block_read_fault size shape r t scratch b home.now spare.now) (rw (data-size-passes sized, passes scratch enough));
          bytes-lent = λ scratch enough asked s placed track lies.
              allows-part size shape r t scratch b sized home spare
              (λ part lent.
              record {
                holds = good-part size shape r t scratch b bytes long are-bytes home spare part lent (lends scratch enough) seat (image-seen ∙ stands);
                lies = (lent-in-place size shape r t b asked scratch s home spare track part placed lies (passes scratch enough) lent).lies;
              });
        }

    -- forced data is refused 17
    pub forced-refuses : held (lies_on (drive_of shape r) t b) ≡ image_of (header_for t b) bytes true → Refuses size shape r t b home spare forced_error
    forced-refuses stands =
        record {
          refused = λ scratch enough.
              allows-refused (data_size_fault size or_else block_read_fault size shape r t scratch b home.now spare.now) ForcedError
              (rw (data-size-passes sized, forced-read size shape r t scratch b bytes long are-bytes (lends scratch enough) seat (image-seen ∙ stands)));
          none_lent = λ scratch enough.
              allows-part size shape r t scratch b sized home spare (λ part lent. forced-part size shape r t scratch b bytes long are-bytes home spare part lent (lends scratch enough) seat (image-seen ∙ stands));
        }

-- the other way round, whatever tracks are lent: where a read passes, the image that it looks into is good, with the block and the code that the table says
module _ (size : ℕ) (shape : Shape) (r : ℕ) (t scratch : List ℕ) (b : ℕ) (image : List ℕ) (long : length image ≡ size + image_extra) where
  module _ (home spare : List ℕ) (seen : image_for size (drive_of shape r) t b home spare ≡ image) where
    lying-passes : block_read_fault size shape r t scratch b home spare ≡ 0 → contents_fault size image (header_for t b) ≡ 0
    unfolding block_read_fault
    lying-passes fits = rw seen at (or_else-next (lent_fault size shape r t scratch b home spare) _ fits)

    pub passing-good : (data_size_fault size or_else block_read_fault size shape r t scratch b home spare) ≡ 0 → JudgeImage size image b (code_for t b) (Ok tt)
    passing-good passes =
        let fits : block_read_fault size shape r t scratch b home spare ≡ 0 = or_else-next (data_size_fault size) _ passes in
        let lent = read-shows size shape r t scratch b home spare fits in
        let none : image_fault size image b (code_for t b) ≡ 0 =
        image-pair image size b (code_for t b) long
        ∙ (pair-says image size b (code_for t b) (header_for t b) (header-says t b (block-few lent.sound lent.below)) ∙ lying-passes fits) in
        rw (or_else-first (data_size_fault size) _ passes) none

  -- so a part that is not empty is the data of that image
  module _ (home spare part : Bor (List ℕ)) (seen : image_for size (drive_of shape r) t b home.now spare.now ≡ image) (lent : Data size shape r t scratch b home spare part) where
    pub part-good : (part.now ≡ [] → ⊥) → GoodImage size b (code_for t b) image part.now
    unfolding data_of
    part-good some =
        by_fault (data_size_fault size or_else block_read_fault size shape r t scratch b home.now spare.now)
        (λ passes.
        record {
          good = passing-good home.now spare.now seen passes;
          data_is = (data-accepted size shape r t scratch b home spare part lent passes).holds ∙ ap (data_of size) seen;
        })
        (λ refused. absurd (some (data-refused size shape r t scratch b home spare part lent refused).holds))

    -- and where no good image of the block is there, it is empty
    pub part_none : (JudgeImage size image b (code_for t b) (Ok tt) → ⊥) → part.now ≡ []
    part_none none =
        (data-refused size shape r t scratch b home spare part lent (λ passes. none (passing-good home.now spare.now seen passes))).holds

-- the tracks that are named, and the other calls
module _ (shape : Shape) (r : ℕ) (t scratch : List ℕ) (b : ℕ) (pair : Pair) (named : TracksOf shape r t scratch b (Ok pair)) where
  pub tracks-lead : Leads shape r t b pair
  tracks-lead =
      rw (named-pair shape r t scratch b pair named)
      (record {
        home-track = λ address given. (ap (λ (at : Address). at.cylinder) (sym given.1), ap (λ (at : Address). at.head) (sym given.1));
        lying-track = λ other address given. (ap (λ (at : Address). at.cylinder) (sym given.1), ap (λ (at : Address). at.head) (sym given.1));
        same-shift = λ other shift given.
            sym given.1;
        leads = shift-reaches (named-sound shape r t scratch b pair named) b;
        one-at-home = λ at_home. by_bool (is_replaced t b) (λ e. absurd (at_home ((tells-replaced t b).holds e))) (λ e. rw e);
      })
