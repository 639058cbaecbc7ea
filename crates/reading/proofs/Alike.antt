-- A read depends on one sector image, that of the block: verdict, spot and part stay the same when the other image, or any other sector of this one, holds other bytes.
-- Assumes nothing.
use Prim.Native.Nat.{ℕ, ◌+◌, ◌<◌, ◌≤◌}
use mathlib.Core.Path.{◌≡◌, refl, sym, ◌∙◌, ap}
use mathlib.Core.List.{List}
use native.Mathlib.Omega.{arith}
use lib.ListN.{length, get_or, take, drop, length-take, length-drop}
use lib.Seq.{sets, length-sets, get_or-take, get_or-drop, ext_get_or}
use denote.Ref.{Bor}
use Rattle.std.specs.Prelude.{Result}
use Rattle.paper.specs.declared.Refusal.{Refusal}
use Rattle.paper.proofs.Kept.{passes-one, gives-one}
use Rattle.paper.specs.Limits.{image_extra}
use Rattle.paper.proofs.Cases.{by_bool, by_lt, by_fault}
use Rattle.words.proofs.Stores.{get_or_sets_before, get_or-sets-after}
use Rattle.shape.specs.declared.Shape.{Shape}
use Rattle.layout.specs.declared.Drive.{Drive}
use Rattle.layout.specs.Layouts.{drive_of}
use Rattle.table.specs.Lookup.{Replaced, is_replaced}
use Rattle.table.specs.Scratch.{Enough}
use Rattle.table.proofs.Lookups.{tells-replaced}
use Rattle.table.proofs.Exact.{table-alike}
use Rattle.image.specs.Image.{data_of}
use Rattle.reading.specs.Tracks.{track_of, sector_in, bytes_in, image_at, image_for}
use Rattle.reading.specs.Faults.{lent_fault, block_read_fault}
use Rattle.reading.specs.declared.answers.Spot.{Spot}
use Rattle.reading.specs.Promises.{spot_of, JudgeSized, SpotSized, DataSized}
use Rattle.reading.proofs.Spots.{read-enough}
use Rattle.reading.proofs.Seats.{track-ptr, image-inside}
use Rattle.reading.proofs.Parts.{refused-part, accepted-part, refused-empty, accepted-data}

-- two pairs of images that are as long and hold the same sector image of a block: whatever else they hold may differ
pub record Agree (size : ℕ) (drive : Drive) (t : List ℕ) (b : ℕ) (home spare home' spare' : List ℕ) : Type 0 where
  pub home-alike : length home ≡ length home'
  pub spare-alike : length spare ≡ length spare'
  pub lies_alike : image_for size drive t b home spare ≡ image_for size drive t b home' spare'

module _ (size : ℕ) where
  -- two tracks that agree on a sector image have the same one there
  pub image-alike :
      (start : ℕ) (track other : List ℕ) → length track ≡ length other →
      ((k : ℕ) → start ≤ k → k < start + (size + image_extra) → get_or track k 0 ≡ get_or other k 0) →
      image_at size start track ≡ image_at size start other
  unfolding image_at
  image-alike start track other long same =
      ext_get_or 0 (take (size + image_extra) (drop start track)) (take (size + image_extra) (drop start other))
      (simp (length-take, length-drop, long))
      (λ k inside.
      let few : k < size + image_extra = omega (arith, length-take (size + image_extra) (drop start track)) in
      rw (
        get_or-take (size + image_extra) (drop start track) k 0 few,
        get_or-take (size + image_extra) (drop start other) k 0 few,
        get_or-drop start track k 0,
        get_or-drop start other k 0,
      )
      (same (start + k) (omega arith) (omega arith)))

  -- bytes stored on another sector leave a sector's image
  pub image-kept :
      (sector other : ℕ) (track bytes : List ℕ) → (other ≡ sector → ⊥) → length bytes ≡ size + image_extra →
      image_at size (bytes_in size sector) (sets track (bytes_in size other) bytes) ≡ image_at size (bytes_in size sector) track
  image-kept sector other track bytes apart long =
      image-alike (bytes_in size sector) (sets track (bytes_in size other) bytes) track (length-sets track (bytes_in size other) bytes)
      (λ k first last.
      by_lt other sector
      (λ h. get_or-sets-after track (bytes_in size other) k bytes 0 (omega (arith, image-inside size other sector h)))
      (λ h.
      let after : sector < other = by_lt sector other (λ l. l) (λ l. absurd (apart (omega arith))) in
      get_or_sets_before track (bytes_in size other) k bytes 0 (omega (arith, image-inside size sector other after))))

-- images agree with themselves
pub agree_same : (size : ℕ) (drive : Drive) (t : List ℕ) (b : ℕ) (home spare : List ℕ) → Agree size drive t b home spare home spare
agree_same size drive t b home spare = record { home-alike = refl; spare-alike = refl; lies_alike = refl }

module _ (size : ℕ) (shape : Shape) (r : ℕ) (t scratch scratch' : List ℕ) (enough : Enough shape r scratch) (enough' : Enough shape r scratch') (b : ℕ) where
  -- images that agree are judged alike, and their data begins at the same spot, whichever scratch is lent
  module _ {home spare home' spare' : List ℕ} (agree : Agree size (drive_of shape r) t b home spare home' spare') where
    pub read_alike : block_read_fault size shape r t scratch b home spare ≡ block_read_fault size shape r t scratch' b home' spare'
    unfolding block_read_fault lent_fault
    read_alike = rw (table-alike shape r t scratch scratch' enough enough', agree.home-alike, agree.spare-alike, agree.lies_alike)

    pub verdict-alike :
        {verdict again : Result Unit Refusal} → JudgeSized size shape r t scratch b home spare verdict → JudgeSized size shape r t scratch' b home' spare' again →
        verdict ≡ again
    verdict-alike {verdict} {again} first second =
        passes-one (block_read_fault size shape r t scratch' b home' spare') verdict again (rw read_alike at first) second

    -- a spot of the one is a spot of the other
    pub spot-either : (spot : Result Spot Refusal) → SpotSized size shape r t scratch b home spare spot → SpotSized size shape r t scratch' b home' spare' spot
    spot-either spot spots = rw read_alike at spots

    pub spot-alike :
        {spot again : Result Spot Refusal} → SpotSized size shape r t scratch b home spare spot → SpotSized size shape r t scratch' b home' spare' again →
        spot ≡ again
    spot-alike {spot} {again} first second =
        gives-one (block_read_fault size shape r t scratch' b home' spare') (spot_of size shape r t b) spot again (spot-either spot first) second

  -- the parts hold the same, and lie at the same place where the images do
  module _
      (home spare home' spare' part part' : Bor (List ℕ))
      (agree : Agree size (drive_of shape r) t b home.now spare.now home'.now spare'.now)
      (first : DataSized size shape r t scratch b home spare part)
      (second : DataSized size shape r t scratch' b home' spare' part')
    where
      pub part-alike : part.now ≡ part'.now
      part-alike =
          by_fault (block_read_fault size shape r t scratch b home.now spare.now)
          (λ none.
          accepted-data size shape r t scratch b home spare part first none
          ∙ ap (data_of size) agree.lies_alike
          ∙ sym (accepted-data size shape r t scratch' b home' spare' part' second (sym (read_alike agree) ∙ none)))
          (λ some.
          refused-empty size shape r t scratch b home spare part first some
          ∙ sym (refused-empty size shape r t scratch' b home' spare' part' second (λ none. some (read_alike agree ∙ none))))

      pub part_placed : home.ref_ptr ≡ home'.ref_ptr → spare.ref_ptr ≡ spare'.ref_ptr → part.ref_ptr ≡ part'.ref_ptr
      part_placed homes spares =
          by_fault (block_read_fault size shape r t scratch b home.now spare.now)
          (λ none.
          let track : (track_of t b home spare).ref_ptr ≡ (track_of t b home' spare').ref_ptr = track-ptr t b home spare ∙ rw (homes, spares) (sym (track-ptr t b home' spare')) in
          (accepted-part size shape r t scratch b home spare part first none).lies
          ∙ rw track (sym (accepted-part size shape r t scratch' b home' spare' part' second (sym (read_alike agree) ∙ none)).lies))
          (λ some.
          (refused-part size shape r t scratch b home spare part first some).lies
          ∙ rw homes (sym (refused-part size shape r t scratch' b home' spare' part' second (λ none. some (read_alike agree ∙ none))).lies))

-- a read that passes with one scratch passes with any that is long enough
pub passes-either :
    (size : ℕ) (shape : Shape) (r : ℕ) (t scratch other : List ℕ) (b : ℕ) (home spare : List ℕ) → block_read_fault size shape r t scratch b home spare ≡ 0 →
    Enough shape r other → block_read_fault size shape r t other b home spare ≡ 0
passes-either size shape r t scratch other b home spare none enough =
    read_alike size shape r t other scratch enough (read-enough size shape r t scratch b home spare none) b (agree_same size (drive_of shape r) t b home spare) ∙ none

module _ (size : ℕ) (shape : Shape) (r : ℕ) (t : List ℕ) (b : ℕ) where
  -- the other image may hold anything of its length
  module _ (home spare other : List ℕ) where
    pub home-unread : Replaced t b → length home ≡ length other → Agree size (drive_of shape r) t b home spare other spare
    home-unread replaced long =
        record { home-alike = long; spare-alike = refl; lies_alike = rw ((tells-replaced t b).told replaced) }

    pub spare-unread : (Replaced t b → ⊥) → length spare ≡ length other → Agree size (drive_of shape r) t b home spare home other
    spare-unread none long =
        record {
          home-alike = refl;
          spare-alike = long;
          lies_alike = by_bool (is_replaced t b) (λ e. absurd (none ((tells-replaced t b).holds e))) (λ e. rw e);
        }

  -- and so may any other sector of this one
  module _ (home spare : List ℕ) (other : ℕ) (bytes : List ℕ) (apart : other ≡ sector_in (drive_of shape r) t b → ⊥) (long : length bytes ≡ size + image_extra) where
    pub sectors-unread : Agree size (drive_of shape r) t b home spare (sets home (bytes_in size other) bytes) (sets spare (bytes_in size other) bytes)
    sectors-unread =
        record {
          home-alike = sym (length-sets home (bytes_in size other) bytes);
          spare-alike = sym (length-sets spare (bytes_in size other) bytes);
          lies_alike =
              by_bool (is_replaced t b)
              (λ e. rw e (sym (image-kept size (sector_in (drive_of shape r) t b) other spare bytes apart long)))
              (λ e. rw e (sym (image-kept size (sector_in (drive_of shape r) t b) other home bytes apart long)));
        }
