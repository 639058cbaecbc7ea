-- The part that is handed back: it is empty exactly where the verdict refuses, and it is the data at the spot.
-- Assumes nothing.
use Prim.Native.Nat.{ℕ, ◌+◌, ◌-◌, ◌<◌}
use mathlib.Core.Path.{◌≡◌, sym, ◌∙◌, ap}
use mathlib.Core.List.{List, []}
use native.Mathlib.Omega.{arith}
use lib.ListN.{length, take, drop}
use denote.Ref.{Bor}
use Rattle.std.specs.Prelude.{Result, Ok, Err}
use Rattle.paper.specs.declared.Refusal.{Refusal}
use Rattle.paper.specs.Checks.{◌or_else◌}
use Rattle.paper.specs.Limits.{data_size_fault}
use Rattle.paper.proofs.Chain.{or_else-first}
use Rattle.shape.specs.declared.Shape.{Shape}
use Rattle.layout.specs.Layouts.{drive_of}
use Rattle.image.specs.Image.{data_of}
use Rattle.image.specs.Promises.{Lends, LendsNone}
use Rattle.image.proofs.Images.{length-data}
use Rattle.image.proofs.Lent.{part-refused, part-accepted, refuses-part, part-one}
use Rattle.reading.specs.declared.answers.Spot.{Spot}
use Rattle.reading.specs.declared.answers.Spot.TheVariants.{InHome, InSpare}
use Rattle.reading.specs.Tracks.{track_of, start_of, data_start, image_for}
use Rattle.reading.specs.Faults.{block_read_fault}
use Rattle.reading.specs.Promises.{LendsBlock, SpotSized, DataSized, Data, AtSpot, in-home, in-spare, nowhere}
use Rattle.reading.proofs.Seats.{image-long, data-inside}
use Rattle.reading.proofs.Spots.{lies-inside, track-long, read-shows, home-told, spare-told, refused-told}

module _ (size : ℕ) (shape : Shape) (r : ℕ) (t scratch : List ℕ) (b : ℕ) where
  -- the data of a block that is read without fault has its size
  pub read_length :
      (home spare : List ℕ) → block_read_fault size shape r t scratch b home spare ≡ 0 →
      length (data_of size (image_for size (drive_of shape r) t b home spare)) ≡ size
  read_length home spare none =
      let lent = read-shows size shape r t scratch b home spare none in
      length-data size (image_for size (drive_of shape r) t b home spare)
      (image-long size (start_of size (drive_of shape r) t b) (track_of t b home spare) (rw (track-long lent) (lies-inside lent)))

  module _ (home spare : Bor (List ℕ)) where
    abbrev fault : ℕ
    fault = block_read_fault size shape r t scratch b home.now spare.now

    abbrev Empty : Bor (List ℕ) → Type 0
    Empty = LendsNone home

    abbrev Whole : Bor (List ℕ) → Type 0
    Whole = LendsBlock size shape r t b home spare

    -- the part that each spot hands back
    pub lends-home :
        {offset : ℕ} (part : Bor (List ℕ)) → SpotSized size shape r t scratch b home.now spare.now (Ok (InHome offset)) →
        Lends home offset (take (offset + size - offset) (drop offset home.now)) part → DataSized size shape r t scratch b home spare part
    lends-home {offset} part spots lent =
        let told = home-told size shape r t scratch b home.now spare.now spots in
        let long : offset + size - offset ≡ size = omega arith in
        rw told.0
        (record {
          holds = lent.holds ∙ rw (long, told.1.0, told.1.1) (sym (data-inside size (start_of size (drive_of shape r) t b) home.now));
          lies = lent.lies ∙ rw (told.1.0, told.1.1);
        })

    pub lends-spare :
        {offset : ℕ} (part : Bor (List ℕ)) → SpotSized size shape r t scratch b home.now spare.now (Ok (InSpare offset)) →
        Lends spare offset (take (offset + size - offset) (drop offset spare.now)) part → DataSized size shape r t scratch b home spare part
    lends-spare {offset} part spots lent =
        let told = spare-told size shape r t scratch b home.now spare.now spots in
        let long : offset + size - offset ≡ size = omega arith in
        rw told.0
        (record {
          holds = lent.holds ∙ rw (long, told.1.0, told.1.1) (sym (data-inside size (start_of size (drive_of shape r) t b) spare.now));
          lies = lent.lies ∙ rw (told.1.0, told.1.1);
        })

    pub lends-empty :
        (refusal : Refusal) (part : Bor (List ℕ)) → SpotSized size shape r t scratch b home.now spare.now (Err refusal) →
        LendsNone home part → DataSized size shape r t scratch b home spare part
    lends-empty refusal part is = refuses-part Empty Whole part fault (refused-told size shape r t scratch b home.now spare.now refusal is).1

    -- nor does the public call lend any where it refuses the size
    pub size-lends-empty : (part : Bor (List ℕ)) → (data_size_fault size ≡ 0 → ⊥) → LendsNone home part → Data size shape r t scratch b home spare part
    size-lends-empty part some = refuses-part Empty Whole part (data_size_fault size or_else fault) (λ none. some (or_else-first (data_size_fault size) fault none))

    module _ (part : Bor (List ℕ)) (lent : DataSized size shape r t scratch b home spare part) where
      pub refused-part : (block_read_fault size shape r t scratch b home.now spare.now ≡ 0 → ⊥) → LendsNone home part
      refused-part some = part-refused Empty Whole part fault some lent

      pub accepted-part :
          block_read_fault size shape r t scratch b home.now spare.now ≡ 0 →
          LendsBlock size shape r t b home spare part
      accepted-part none = part-accepted Empty Whole part fault none lent

      pub refused-empty : (block_read_fault size shape r t scratch b home.now spare.now ≡ 0 → ⊥) → part.now ≡ []
      refused-empty some = (refused-part some).holds

      pub accepted-data :
          block_read_fault size shape r t scratch b home.now spare.now ≡ 0 →
          part.now ≡ data_of size (image_for size (drive_of shape r) t b home.now spare.now)
      accepted-data none = (accepted-part none).holds

      pub empty-refused : 0 < size → part.now ≡ [] → block_read_fault size shape r t scratch b home.now spare.now ≡ 0 → ⊥
      empty-refused some empty none =
          omega (arith, read_length home.now spare.now none, ap length (sym (accepted-data none) ∙ empty))

      -- it is the data at the spot
      pub data-at-spot : (spot : Result Spot Refusal) → SpotSized size shape r t scratch b home.now spare.now spot → AtSpot size home spare part spot
      data-at-spot (Ok (InHome offset)) spots =
          let told = home-told size shape r t scratch b home.now spare.now spots in
          let whole = accepted-part told.0 in
          in-home
          (record {
            holds = whole.holds ∙ rw (told.1.0, told.1.1) (data-inside size (start_of size (drive_of shape r) t b) home.now);
            lies = rw (told.1.0, ← told.1.1) at whole.lies;
          })
      data-at-spot (Ok (InSpare offset)) spots =
          let told = spare-told size shape r t scratch b home.now spare.now spots in
          let whole = accepted-part told.0 in
          in-spare
          (record {
            holds = whole.holds ∙ rw (told.1.0, told.1.1) (data-inside size (start_of size (drive_of shape r) t b) spare.now);
            lies = rw (told.1.0, ← told.1.1) at whole.lies;
          })
      data-at-spot (Err refusal) is = nowhere (refused-part (refused-told size shape r t scratch b home.now spare.now refusal is).1)

    -- the part of the public call, whose chain has the size first
    module _ (part : Bor (List ℕ)) (lent : Data size shape r t scratch b home spare part) where
      pub data-refused : ((data_size_fault size or_else block_read_fault size shape r t scratch b home.now spare.now) ≡ 0 → ⊥) → LendsNone home part
      data-refused some = part-refused Empty Whole part (data_size_fault size or_else fault) some lent

      pub data-accepted : (data_size_fault size or_else block_read_fault size shape r t scratch b home.now spare.now) ≡ 0 → LendsBlock size shape r t b home spare part
      data-accepted none = part-accepted Empty Whole part (data_size_fault size or_else fault) none lent

    -- two parts that the promise of the public call allows hold the same and lie at the same place
    pub data-one :
        (first second : Bor (List ℕ)) → Data size shape r t scratch b home spare first → Data size shape r t scratch b home spare second →
        (first.now ≡ second.now) × (first.ref_ptr ≡ second.ref_ptr)
    data-one =
        part-one home 0 [] (track_of t b home spare) (data_start size (drive_of shape r) t b) (data_of size (image_for size (drive_of shape r) t b home.now spare.now))
        (data_size_fault size or_else fault)
