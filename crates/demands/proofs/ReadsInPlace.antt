-- A read goes by the sector image of the block: the sector that the look-up answers, counted inside its track, is the one that the read looks into, in the image that the block lies in.
-- Assumes nothing.
use Prim.Native.Nat.{ℕ, ◌%◌}
use mathlib.Core.Path.{◌≡◌, sym, ◌∙◌, ap}
use mathlib.Core.List.{List}
use lib.ListN.{length, take, drop}
use Rattle.std.specs.Prelude.{Result, Ok, Err}
use denote.Ref.{Bor}
use Rattle.paper.specs.Answers.{said_verdict}
use Rattle.paper.specs.Checks.{◌or_else◌}
use Rattle.paper.specs.declared.Refusal.{Refusal}
use Rattle.paper.specs.Limits.{Size, data_size_fault}
use Rattle.paper.proofs.Cases.{by_bool, by_fault}
use Rattle.paper.proofs.Chain.{or_else-none, or_else-first, or_else-next}
use Rattle.paper.proofs.Kept.{gives-accepted, passes-one}
use Rattle.paper.proofs.Rows.{data-size-passes, data-size-shows, sized-shows, size_above}
use Rattle.shape.specs.declared.Shape.{Shape}
use Rattle.layout.specs.Layouts.{drive_of}
use Rattle.layout.proofs.Layings.{track-whole}
use Rattle.table.specs.Rules.{block_fault}
use Rattle.table.specs.Scratch.{Enough}
use Rattle.table.specs.Lookup.{is_replaced, lies_on}
use Rattle.table.proofs.Lookups.{tells-replaced}
use Rattle.table.proofs.Exact.{sound-laid, block-sound}
use Rattle.spares.specs.Promises.{SectorOf}
use Rattle.image.specs.Promises.{Lends}
use Rattle.reading.specs.Tracks.{track_of, sector_in, image_at, image_for}
use Rattle.reading.specs.Faults.{block_read_fault}
use Rattle.reading.specs.Promises.{DataSized, Judge, Data, Spots, AtSpot, nowhere, said_spot}
use Rattle.reading.specs.declared.answers.Spot.{Spot}
use Rattle.reading.proofs.Sized.{part_of, spot-of, size-lends-none}
use Rattle.reading.proofs.Alike.{Agree, agree_same, read_alike, passes-either, part-alike}
use Rattle.reading.proofs.Parts.{refused-empty, empty-refused, accepted-data, accepted-part, read_length, data-at-spot}
use Rattle.reading.proofs.Seats.{sector-lies, data-inside}
use Rattle.demands.specs.Incident.{image_from}
use Rattle.demands.specs.Reads.{LiesIn, at-home, on-spare, start_at, data_at, AsLong, ReadsInPlace}

module _ (size : ℕ) (shape : Shape) (r : ℕ) (t : List ℕ) (b : ℕ) where
  -- the image that a block lies in is the one that the read takes
  lies_in : {Image : Type 0} (home spare : Image) {image : Image} → LiesIn t b home spare image → track_of t b home spare ≡ image
  lies_in home spare (at-home none) = by_bool (is_replaced t b) (λ e. absurd (none ((tells-replaced t b).holds e))) (λ e. rw e)
  lies_in home spare (on-spare moved) = rw ((tells-replaced t b).told moved)

  module _ (asked : List ℕ) (s : ℕ) (placed : SectorOf shape r t asked b (Ok s)) where
    passes : block_fault shape r t asked b ≡ 0
    passes = placed.0

    -- the sector that is answered, counted inside its track
    its-sector : sector_in (drive_of shape r) t b ≡ s % shape.sectors
    its-sector =
        let sound = block-sound shape r t asked b passes in
        let is : s ≡ lies_on (drive_of shape r) t b = placed.1 in
        sector-lies (drive_of shape r) t b (sound-laid sound) ∙ (rw (sym is) (ap (λ (n : ℕ). s % n) (track-whole sound.spared)))

    pub its-image : (home spare : List ℕ) {track : List ℕ} → LiesIn t b home spare track → image_for size (drive_of shape r) t b home spare ≡ image_from size (start_at size shape s) track
    unfolding image_at
    its-image home spare lies = rw (its-sector, lies_in home spare lies)

    -- images as long as each other, with the same bytes on the sector of the block, agree
    agreeing :
        (home spare home' spare' : List ℕ) {track track' : List ℕ} → LiesIn t b home spare track → LiesIn t b home' spare' track' →
        AsLong home home' → AsLong spare spare' → image_from size (start_at size shape s) track ≡ image_from size (start_at size shape s) track' →
        Agree size (drive_of shape r) t b home spare home' spare'
    agreeing home spare home' spare' lies lies' long long' same =
        record {
          home-alike = long;
          spare-alike = long';
          lies_alike = its-image home spare lies ∙ (same ∙ sym (its-image home' spare' lies'));
        }

  -- a verdict says what the read's chain does, the size first
  pub judged-by :
      (judged home spare : List ℕ) (verdict : Result Unit Refusal) → Judge size shape r t judged b home spare verdict →
      said_verdict verdict ≡ (data_size_fault size or_else block_read_fault size shape r t judged b home spare)
  judged-by judged home spare (Ok done) promise = sym promise
  judged-by judged home spare (Err refusal) promise = sym promise

  -- a block that is judged good is read without fault, with any scratch that is long enough
  good-passes :
      (judged read home spare : List ℕ) → (data_size_fault size or_else block_read_fault size shape r t judged b home spare) ≡ 0 → Enough shape r read →
      block_read_fault size shape r t read b home spare ≡ 0
  good-passes judged read home spare good enough =
      passes-either size shape r t judged read b home spare (or_else-next (data_size_fault size) _ good) enough

  -- the images behind two references lie as the references do
  lies-now : {home spare track : Bor (List ℕ)} → LiesIn t b home spare track → LiesIn t b home.now spare.now track.now
  lies-now (at-home none) = at-home none
  lies-now (on-spare moved) = on-spare moved

  pub lent-in-place :
      (asked read : List ℕ) (s : ℕ) (home spare track part : Bor (List ℕ)) → SectorOf shape r t asked b (Ok s) → LiesIn t b home spare track →
      block_read_fault size shape r t read b home.now spare.now ≡ 0 → DataSized size shape r t read b home spare part →
      Lends track (data_at size shape s) (take size (drop (data_at size shape s) track.now)) part
  lent-in-place asked read s home spare track part placed lies none lent =
      record {
        holds =
            accepted-data size shape r t read b home spare part lent none
            ∙ (rw (lies_in home.now spare.now (lies-now lies), its-sector asked s placed) (data-inside size (start_at size shape s) track.now));
        lies = rw (lies_in home spare lies, its-sector asked s placed) at (accepted-part size shape r t read b home spare part lent none).lies;
      }

  spot-said :
      (asked spotted : List ℕ) (s image : ℕ) (home spare : List ℕ) (spot : Result Spot Refusal) → SectorOf shape r t asked b (Ok s) → LiesIn t b 0 1 image →
      (data_size_fault size or_else block_read_fault size shape r t spotted b home spare) ≡ 0 → Spots size shape r t spotted b home spare spot →
      said_spot spot ≡ (0, image, data_at size shape s)
  spot-said asked spotted s image home spare spot placed (at-home none) passed spots =
      ap said_spot (gives-accepted _ _ spot passed spots)
      ∙ by_bool (is_replaced t b) (λ e. absurd (none ((tells-replaced t b).holds e))) (λ e. rw (e, its-sector asked s placed))
  spot-said asked spotted s image home spare spot placed (on-spare moved) passed spots =
      ap said_spot (gives-accepted _ _ spot passed spots) ∙ rw ((tells-replaced t b).told moved, its-sector asked s placed)

-- a chain that passes looked at one of the two sizes
good-size :
    (size : ℕ) (shape : Shape) (r : ℕ) (t judged : List ℕ) (b : ℕ) (home spare : List ℕ) →
    (data_size_fault size or_else block_read_fault size shape r t judged b home spare) ≡ 0 → Size size
good-size size shape r t judged b home spare good = sized-shows size (block_read_fault size shape r t judged b home spare) good

-- where the size is refused there is no spot
unspotted :
    (size : ℕ) (shape : Shape) (r : ℕ) (t read : List ℕ) (b : ℕ) (home spare part : Bor (List ℕ)) (spot : Result Spot Refusal) →
    (data_size_fault size ≡ 0 → ⊥) → Spots size shape r t read b home.now spare.now spot → Data size shape r t read b home spare part → AtSpot size home spare part spot
unspotted size shape r t read b home spare part (Ok spot) bad spots lent = absurd (bad (or_else-first (data_size_fault size) _ spots.0))
unspotted size shape r t read b home spare part (Err refusal) bad spots lent = nowhere (size-lends-none size shape r t read b bad home spare part lent)

pub reads-in-place : ReadsInPlace
reads-in-place =
    record {
      lends-in-place = λ size shape r t asked judged read b s home spare track part placed lies good enough lent.
          let sized = good-size size shape r t judged b home.now spare.now good in
          lent-in-place size shape r t b asked read s home spare track part placed lies (good-passes size shape r t b judged read home.now spare.now good enough)
          (part_of size shape r t read b sized home spare part lent);
      lends-whole = λ size shape r t judged read b home spare part good enough lent.
          let sized = good-size size shape r t judged b home.now spare.now good in
          let none = good-passes size shape r t b judged read home.now spare.now good enough in
          ap length (accepted-data size shape r t read b home spare part (part_of size shape r t read b sized home spare part lent) none)
          ∙ read_length size shape r t read b home.now spare.now none;
      refused-empty = λ size shape r t judged read b home spare part verdict enough judge lent some.
          by_fault (data_size_fault size)
          (λ fits.
          let sized = data-size-shows size fits in
          refused-empty size shape r t read b home spare part (part_of size shape r t read b sized home spare part lent)
          (λ none.
          some
          (judged-by size shape r t b judged home.now spare.now verdict judge
          ∙ (or_else-none (data_size_fault size) _ fits
          ∙ passes-either size shape r t read judged b home.now spare.now none enough))))
          (λ bad. (size-lends-none size shape r t read b bad home spare part lent).holds);
      empty-refused = λ size shape r t judged read b home spare part verdict judge enough lent empty none.
          let good = sym (judged-by size shape r t b judged home.now spare.now verdict judge) ∙ none in
          let sized = good-size size shape r t judged b home.now spare.now good in
          empty-refused size shape r t read b home spare part (part_of size shape r t read b sized home spare part lent) (size_above sized) empty
          (good-passes size shape r t b judged read home.now spare.now good enough);
      same-verdict = λ size shape r t asked judged judged' b s home spare track home' spare' track' verdict again placed lies lies' long long' same enough enough' first second.
          let agree = agreeing size shape r t b asked s placed home spare home' spare' lies lies' long long' same in
          passes-one (data_size_fault size or_else block_read_fault size shape r t judged' b home' spare') verdict again
          (rw (read_alike size shape r t judged judged' enough enough' b agree) at first) second;
      same-data = λ size shape r t asked read read' b s home spare track home' spare' track' part again placed lies lies' long long' same enough enough' first second.
          by_fault (data_size_fault size)
          (λ fits.
          let sized = data-size-shows size fits in
          part-alike size shape r t read read' enough enough' b home spare home' spare' part again
          (agreeing size shape r t b asked s placed home.now spare.now home'.now spare'.now (lies-now size shape r t b lies) (lies-now size shape r t b lies') long long' same)
          (part_of size shape r t read b sized home spare part first) (part_of size shape r t read' b sized home' spare' again second))
          (λ bad. (size-lends-none size shape r t read b bad home spare part first).holds ∙ sym (size-lends-none size shape r t read' b bad home' spare' again second).holds);
      spot-in-place = λ size shape r t asked judged spotted b s image home spare spot placed lies good enough spots.
          let passes = good-passes size shape r t b judged spotted home spare good enough in
          spot-said size shape r t b asked spotted s image home spare spot placed lies (rw (data-size-passes (good-size size shape r t judged b home spare good)) passes) spots;
      data-at-spot = λ size shape r t spotted read b home spare part spot enough enough' spots lent.
          let alike = read_alike size shape r t spotted read enough enough' b (agree_same size (drive_of shape r) t b home.now spare.now) in
          let there : Spots size shape r t read b home.now spare.now spot = rw alike at spots in
          by_fault (data_size_fault size)
          (λ fits.
          let sized = data-size-shows size fits in
          data-at-spot size shape r t read b home spare part (part_of size shape r t read b sized home spare part lent) spot (spot-of size shape r t read b sized home.now spare.now spot there))
          (λ bad. unspotted size shape r t read b home spare part spot bad there lent);
    }
