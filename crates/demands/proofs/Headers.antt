-- What Q-4 asks of headers holds: the header that a read expects is the word of the block and of the code that the table says, and an image with it is judged as it was written, with any other refused 16.
-- Assumes nothing.
use Prim.Native.Nat.{ℕ, ◌+◌, ◌<◌}
use Rattle.std.specs.Prelude.{Result, Ok, Err}
use mathlib.Core.Path.{◌≡◌, sym, ◌∙◌, ap}
use mathlib.Core.Bool.{Bool, false}
use mathlib.Core.Logic.{◌⊎◌, ⊎_elim}
use mathlib.Core.List.{List, ◌++◌}
use native.Mathlib.Omega.{arith}
use lib.ListN.{length, take, replicate}
use Rattle.paper.specs.Conditions.{NotBelow}
use Rattle.paper.specs.Checks.{◌or_else◌}
use Rattle.paper.specs.Limits.{image_extra, Size, data_size_fault}
use Rattle.paper.specs.Refusals.{other_block}
use Rattle.paper.proofs.Cases.{by_bool}
use Rattle.paper.proofs.Kept.{passes-one}
use Rattle.paper.proofs.Rows.{data-size-passes}
use Rattle.paper.specs.declared.Refusal.{Refusal}
use Rattle.paper.specs.declared.Refusal.TheVariants.{OtherBlock, ForcedError}
use Rattle.words.specs.Coded.{code_unit, word_of, code_of}
use Rattle.words.specs.Words.{bytes16, bytes_of, Bytes}
use Rattle.words.proofs.Coded.{code-of-word, word_fits}
use Rattle.shape.specs.declared.Shape.{Shape}
use Rattle.layout.specs.Layouts.{drive_of}
use Rattle.table.specs.Lookup.{is_replaced}
use Rattle.table.specs.Rules.{Sound, block_fault}
use Rattle.table.specs.Scratch.{Enough}
use Rattle.table.proofs.Exact.{sound-obeys, block-sound, block-below}
use Rattle.table.proofs.Lookups.{tells-replaced}
use Rattle.image.specs.Code.{carried}
use Rattle.image.specs.Header.{at_home, Known}
use Rattle.image.specs.Image.{copies_made, Stands, image_of}
use Rattle.image.specs.Judged.{FourthCode}
use Rattle.image.specs.Promises.{Write, Judge}
use Rattle.image.proofs.Headers.{says-below}
use Rattle.image.proofs.Exact.{image-unsaid}
use Rattle.reading.specs.Tracks.{sector_in, header_for, image_at, track_of, bytes_in}
use Rattle.reading.specs.Faults.{lent_fault, block_read_fault}
use Rattle.reading.proofs.Exact.{block-few, lent-passes}
use Rattle.reading.proofs.Seats.{seated, header-home, header-named}
use Rattle.reading.proofs.Sized.{part_of}
use Rattle.reading.proofs.Written.{good-read, forced-read, other-read, good-part, forced-part, other-part}
use Rattle.demands.specs.Headers.{Expected, own, descriptor, Holding, Headers}
use Rattle.demands.proofs.ReadsInPlace.{its-image}
use Rattle.demands.proofs.Rooms.{image-write-hands}

-- what is written with code 0
home-plain :
    (size block : ℕ) (bytes : List ℕ) (forced : Bool) (room : List ℕ) (long : ℕ) (after : List ℕ) →
    Write size block at_home bytes forced room (Ok long) after →
    take long after ≡ bytes_of (replicate copies_made block) ++ (bytes ++ bytes16 (carried forced bytes))
unfolding image_of
home-plain size block bytes forced room long after wrote =
    let plain : word_of at_home block ≡ block = omega arith in
    (image-write-hands size block at_home bytes forced room long after wrote).1.first ∙ rw plain

-- a pair that no number says
never_met :
    (size : ℕ) → Size size → (image : List ℕ) (block code : ℕ) → (Known code → ⊥) ⊎ NotBelow code_unit block →
    (m : ℕ) → Stands image m → length image ≡ size + image_extra →
    (verdict : Result Unit Refusal) → Judge size image block code verdict → verdict ≡ Err OtherBlock
never_met size sized image block code unsaid m stands long verdict judged =
    passes-one _ verdict (Err OtherBlock) judged
    (rw (
      data-size-passes sized,
      image-unsaid image size block code long m stands
          (λ says. ⊎_elim (λ fourth. fourth says.known) (λ over. omega (arith, says-below says)) unsaid),
    ))

-- a fourth code in the header
fourth-refused :
    (size : ℕ) → Size size → (image : List ℕ) (block code : ℕ) → FourthCode image → length image ≡ size + image_extra →
    (verdict : Result Unit Refusal) → Judge size image block code verdict → verdict ≡ Err OtherBlock
fourth-refused size sized image block code other long verdict judged =
    passes-one _ verdict (Err OtherBlock) judged
    (rw (data-size-passes sized, image-unsaid image size block code long other.number other.stands (λ says. other.fourth (rw says.code_is says.known))))

module _ {size : ℕ} {shape : Shape} {r : ℕ} {t : List ℕ} {b : ℕ} {home spare : List ℕ} {number : ℕ} {bytes : List ℕ} {forced : Bool} (held : Holding size shape r t b home spare number bytes forced) where
  asked-passes : block_fault shape r t held.asked b ≡ 0
  asked-passes = held.lies-on.0

  is-sound : Sound shape r t
  is-sound = block-sound shape r t held.asked b asked-passes

  is_below : b < (drive_of shape r).blocks
  is_below = block-below shape r t held.asked b asked-passes

  passes : (scratch : List ℕ) → Enough shape r scratch → lent_fault size shape r t scratch b home spare ≡ 0
  passes scratch enough =
      lent-passes size shape r t scratch b home spare
      (record { sound = is-sound; below = is_below; home-long = held.home-whole; spare-long = held.spare-whole }) enough

  -- the image on the sector of the block
  on-sector : image_at size (bytes_in size (sector_in (drive_of shape r) t b)) (track_of t b home spare) ≡ image_of number bytes forced
  on-sector = its-image size shape r t b held.asked held.sector held.lies-on home spare held.lies_in ∙ held.stands

-- the header that is expected
expected-is : {shape : Shape} {r : ℕ} {t : List ℕ} {b number : ℕ} → Sound shape r t → Expected t b number → header_for t b ≡ number
expected-is {t = t} {b = b} sound (own none) = header-home t b (by_bool (is_replaced t b) (λ e. absurd (none ((tells-replaced t b).holds e))) (λ e. e))
expected-is {t = t} {b = b} sound (descriptor q in_table named) = header-named t b (sound-obeys sound) q in_table named

-- the code of what is expected is the one that the table says, so that a word with another code is another number
module _ {shape : Shape} {r : ℕ} {t : List ℕ} {b number code : ℕ} (sound : Sound shape r t) (below : b < (drive_of shape r).blocks) (expected : Expected t b number) where
  coded-other : (code_of number ≡ code → ⊥) → word_of code b ≡ header_for t b → ⊥
  coded-other other same =
      other (ap code_of (sym (expected-is sound expected) ∙ sym same) ∙ code-of-word code b (block-few sound below))

module _ (size : ℕ) (shape : Shape) (r : ℕ) (t judged : List ℕ) (b : ℕ) (home spare : List ℕ) (number : ℕ) (bytes : List ℕ) where
  -- a read of a good image with the number that is expected passes
  pub expected-passes :
      Expected t b number → Bytes bytes → Holding size shape r t b home spare number bytes false → Enough shape r judged →
      (data_size_fault size or_else block_read_fault size shape r t judged b home spare) ≡ 0
  expected-passes expected are-bytes held enough =
      rw (
        data-size-passes held.sized,
        good-read size shape r t judged b bytes held.long are-bytes (passes held judged enough) (seated (drive_of shape r) t b home spare)
            (on-sector held ∙ rw (expected-is (is-sound held) expected)),
      )

  -- with another code of four bits it gives 16, good or forced
  pub other-given :
      (code : ℕ) (forced : Bool) → Expected t b number → code < 16 → (code_of number ≡ code → ⊥) → Holding size shape r t b home spare (word_of code b) bytes forced → Enough shape r judged →
      (data_size_fault size or_else block_read_fault size shape r t judged b home spare) ≡ other_block
  other-given code forced expected few other held enough =
      rw (
        data-size-passes held.sized,
        other-read size shape r t judged b bytes (word_of code b) forced
            (word_fits few (block-few (is-sound held) (is_below held))) (coded-other (is-sound held) (is_below held) expected other)
            (passes held judged enough) (seated (drive_of shape r) t b home spare) (on-sector held),
      )

pub headers : Headers
headers =
    record {
      home-plain = home-plain;
      never_met = never_met;
      fourth-refused = fourth-refused;
      expected-good = λ size shape r t judged b home spare number bytes expected are-bytes held enough verdict promise.
          passes-one _ verdict (Ok tt) promise (expected-passes size shape r t judged b home spare number bytes expected are-bytes held enough);
      expected-gives = λ size shape r t read b home spare number bytes expected are-bytes held enough part promise.
          good-part size shape r t read b bytes held.long are-bytes home spare part (part_of size shape r t read b held.sized home spare part promise) (passes held read enough) (seated (drive_of shape r) t b home.now spare.now)
          (on-sector held ∙ rw (expected-is (is-sound held) expected));
      expected-forced = λ size shape r t judged b home spare number bytes expected are-bytes held enough verdict promise.
          passes-one _ verdict (Err ForcedError) promise
          (rw (
            data-size-passes held.sized,
            forced-read size shape r t judged b bytes held.long are-bytes (passes held judged enough) (seated (drive_of shape r) t b home spare)
                (on-sector held ∙ rw (expected-is (is-sound held) expected)),
          ));
      forced-gives-none = λ size shape r t read b home spare number bytes expected are-bytes held enough part promise.
          forced-part size shape r t read b bytes held.long are-bytes home spare part (part_of size shape r t read b held.sized home spare part promise) (passes held read enough) (seated (drive_of shape r) t b home.now spare.now)
          (on-sector held ∙ rw (expected-is (is-sound held) expected));
      other-code = λ size shape r t judged b home spare number code bytes forced expected few other held enough verdict promise.
          passes-one _ verdict (Err OtherBlock) promise (other-given size shape r t judged b home spare number bytes code forced expected few other held enough);
      other-gives-none = λ size shape r t read b home spare number code bytes forced expected few other held enough part promise.
          other-part size shape r t read b bytes (word_of code b) forced
          (word_fits few (block-few (is-sound held) (is_below held))) (coded-other (is-sound held) (is_below held) expected other)
          home spare part (part_of size shape r t read b held.sized home spare part promise) (passes held read enough) (seated (drive_of shape r) t b home.now spare.now) (on-sector held);
    }
