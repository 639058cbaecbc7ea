-- The laws of a written image, for any number of data bytes.
-- Assumes nothing.
use Prim.Native.Nat.{ℕ, zero, suc, ◌+◌, ◌-◌, ◌^◌, ◌<◌, ◌≤◌}
use mathlib.Core.Path.{◌≡◌, sym, ◌∙◌, ap}
use mathlib.Core.Bool.{Bool, true, false}
use mathlib.Core.List.{List, ◌++◌}
use native.Mathlib.Nat.{zero-add, add-zero}
use native.Mathlib.Omega.{arith}
use lib.ListN.{length, take, drop, replicate, length-append, length-drop}
use lib.Seq.{sets, sets-eq, take_at, drop_at, take-append_seam, take-append-le, drop-append-le, length-take-le}
use Rattle.paper.specs.Limits.{header_size, image_extra}
use Rattle.paper.specs.Promise.{written}
use Rattle.paper.specs.Refusals.{forced_error}
use Rattle.paper.proofs.Cases.{by_bool}
use Rattle.words.specs.Words.{bytes16, bytes_of, Bytes}
use Rattle.words.proofs.Fitting.{Below}
use Rattle.words.proofs.Digits.{length-bytes16, word16-bytes16}
use Rattle.words.proofs.Places.{word16-second}
use Rattle.words.proofs.Runs.{length-bytes_of, entries_at-bytes_of}
use Rattle.words.proofs.Stores.{sets-append}
use Rattle.seek.proofs.Times.{times-all}
use Rattle.image.specs.Code.{data_code, complement, carried}
use Rattle.image.specs.Image.{copies_made, copies, Stands, header_of, data_of, stored_in, found_in, image_of, contents_fault}
use Rattle.image.proofs.Coding.{data_code-below}
use Rattle.image.proofs.Copies.{stands-header}
use Rattle.image.proofs.Exact.{sector-good, sector-forced}

pub replicate-below : {bound : ℕ} (count n : ℕ) → 0 < bound → n < bound → Below bound (replicate count n)
replicate-below zero n some h k = some
replicate-below (suc count) n some h zero = h
replicate-below (suc count) n some h (suc k) = replicate-below count n some h k

-- data of an image of the right length
pub length-data : (size : ℕ) (image : List ℕ) → length image ≡ size + image_extra → length (data_of size image) ≡ size
unfolding data_of
length-data size image long = length-take-le size (drop header_size image) (rw (length-drop header_size image) (omega arith))

-- the part of an image from the header's end on is its data
pub data-part : (size : ℕ) (image : List ℕ) → take (header_size + size - header_size) (drop header_size image) ≡ data_of size image
unfolding data_of
data-part size image = let long : header_size + size - header_size ≡ size = omega arith in rw long

module _ (number : ℕ) where
  pub length-header : length (bytes_of (replicate copies_made number)) ≡ header_size
  length-header = length-bytes_of (replicate copies_made number)

  module _ (bytes : List ℕ) (forced : Bool) where
    pub length-image : length (image_of number bytes forced) ≡ length bytes + image_extra
    unfolding image_of
    length-image =
        length-append (bytes_of (replicate copies_made number)) (bytes ++ bytes16 (carried forced bytes))
        ∙ omega (arith, length-header, length-append bytes (bytes16 (carried forced bytes)), length-bytes16 (carried forced bytes))

    in-turn :
        (room : List ℕ) →
        sets (sets (sets room 0 (bytes_of (replicate copies_made number))) header_size bytes) (header_size + length bytes) (bytes16 (carried forced bytes))
        ≡ sets room 0 (image_of number bytes forced)
    unfolding image_of
    in-turn room =
        sym
        (sets-append room 0 (bytes_of (replicate copies_made number)) (bytes ++ bytes16 (carried forced bytes))
        ∙ rw (length-header, zero-add) (sets-append (sets room 0 (bytes_of (replicate copies_made number))) header_size bytes (bytes16 (carried forced bytes))))

    -- header, data and code stored one after the other are the image in the room
    pub stored-whole :
        (room : List ℕ) → length bytes + image_extra ≤ length room →
        sets (sets (sets room 0 (bytes_of (replicate copies_made number))) header_size bytes) (header_size + length bytes) (bytes16 (carried forced bytes))
        ≡ written (image_of number bytes forced) room
    stored-whole room fits =
        in-turn room ∙ sets-eq (image_of number bytes forced) room 0 (omega (arith, length-image)) ∙ rw zero-add

    pub written-data : data_of (length bytes) (image_of number bytes forced) ≡ bytes
    unfolding data_of image_of
    written-data =
        rw (drop_at (bytes_of (replicate copies_made number)) (bytes ++ bytes16 (carried forced bytes)) header_size length-header)
        (take-append_seam bytes (bytes16 (carried forced bytes)))

    -- the image stands in the first places of the room, and the rest is as it was
    pub image-first : (room : List ℕ) → take (length bytes + image_extra) (written (image_of number bytes forced) room) ≡ image_of number bytes forced
    image-first room = take_at (image_of number bytes forced) (drop (length (image_of number bytes forced)) room) (length bytes + image_extra) length-image

    pub image-rest : (room : List ℕ) → drop (length bytes + image_extra) (written (image_of number bytes forced) room) ≡ drop (length bytes + image_extra) room
    image-rest room =
        drop_at (image_of number bytes forced) (drop (length (image_of number bytes forced)) room) (length bytes + image_extra) length-image
        ∙ ap (λ (long : ℕ). drop long room) length-image

    -- the data still stands where it was written
    pub image-data : (room : List ℕ) → data_of (length bytes) (written (image_of number bytes forced) room) ≡ bytes
    unfolding data_of
    image-data room =
        let image = image_of number bytes forced in
        let rest = drop (length image) room in
        let behind : length (drop header_size image) ≡ length bytes + 2 = length-drop header_size image ∙ omega (arith, length-image) in
        rw (
          drop-append-le header_size image rest (omega (arith, length-image)),
          take-append-le (length bytes) (drop header_size image) rest (omega arith),
        )
        written-data

    module _ (fits : number < 2 ^ 32) where
      pub written-copies : copies (image_of number bytes forced) ≡ replicate copies_made number
      unfolding copies image_of
      written-copies = entries_at-bytes_of (replicate copies_made number) (bytes ++ bytes16 (carried forced bytes)) (replicate-below copies_made number (omega arith) fits)

      pub written_stands : Stands (image_of number bytes forced) number
      written_stands = rw (written-copies, times-all number copies_made) (omega arith)

      -- a written image names its number
      pub written-names : header_of (image_of number bytes forced) ≡ number
      written-names = stands-header (image_of number bytes forced) number written_stands

    module _ (h : Bytes bytes) where
      pub carried-below : carried forced bytes < 2 ^ 16
      unfolding carried
      carried-below = by_bool forced (λ e. rw e (omega arith)) (λ e. rw e (data_code-below bytes h))

      pub written-code : stored_in (length bytes) (image_of number bytes forced) ≡ carried forced bytes
      unfolding stored_in image_of
      written-code =
          (rw length-header at (word16-second (bytes_of (replicate copies_made number)) (bytes ++ bytes16 (carried forced bytes)) (length bytes)))
          ∙ (rw (add-zero (length bytes)) at (word16-second bytes (bytes16 (carried forced bytes)) 0))
          ∙ word16-bytes16 (carried forced bytes) carried-below

  module _ (bytes : List ℕ) (fits : number < 2 ^ 32) (h : Bytes bytes) where
    -- an image that is written good is good, and one that is written forced is a forced error
    pub written-good : contents_fault (length bytes) (image_of number bytes false) number ≡ 0
    unfolding found_in carried
    written-good =
        sector-good (image_of number bytes false) (length bytes) number (written_stands bytes false fits)
        (written-code bytes false h ∙ sym (ap data_code (written-data bytes false)))

    pub written-forced : contents_fault (length bytes) (image_of number bytes true) number ≡ forced_error
    unfolding found_in carried
    written-forced =
        sector-forced (image_of number bytes true) (length bytes) number (written_stands bytes true fits)
        (written-code bytes true h ∙ sym (ap (λ (found : List ℕ). complement (data_code found)) (written-data bytes true)))
