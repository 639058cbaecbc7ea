-- The public reads: with one of the two sizes each promises what the read for any number of data bytes does; one that has accepted was handed such a size; and what each comes to where the size is refused.
-- Assumes nothing.
use Prim.Native.Nat.{ℕ}
use mathlib.Core.Path.{◌≡◌}
use mathlib.Core.List.{List}
use denote.Ref.{Bor}
use Rattle.std.specs.Prelude.{Result, Ok, Err}
use Rattle.paper.specs.Checks.{◌or_else◌}
use Rattle.paper.specs.Refusals.{out_of_range}
use Rattle.paper.specs.declared.Refusal.{Refusal}
use Rattle.paper.specs.declared.Refusal.TheVariants.{OutOfRange}
use Rattle.paper.specs.Limits.{Size, is_size, data_size_fault}
use Rattle.paper.proofs.Cases.{by_bool}
use Rattle.paper.proofs.Chain.{or_else-first}
use Rattle.paper.proofs.Kept.{passes-one, gives-refused}
use Rattle.paper.proofs.Rows.{data-size-passes, sized-shows}
use Rattle.shape.specs.declared.Shape.{Shape}
use Rattle.image.specs.Promises.{LendsNone}
use Rattle.reading.specs.declared.answers.Spot.{Spot}
use Rattle.reading.specs.Faults.{block_read_fault}
use Rattle.reading.specs.Promises.{spot_of, JudgeSized, DataSized, SpotSized, Judge, Data, Spots}
use Rattle.reading.proofs.Parts.{data-refused}

module _ (size : ℕ) (shape : Shape) (r : ℕ) (t scratch : List ℕ) (b : ℕ) where
  module _ (sized : Size size) where
    pub judge-sized : (home spare : List ℕ) → Judge size shape r t scratch b home spare ≡ JudgeSized size shape r t scratch b home spare
    judge-sized home spare = rw (data-size-passes sized)

    pub data-sized : (home spare : Bor (List ℕ)) → Data size shape r t scratch b home spare ≡ DataSized size shape r t scratch b home spare
    data-sized home spare = rw (data-size-passes sized)

    pub spot-sized : (home spare : List ℕ) → Spots size shape r t scratch b home spare ≡ SpotSized size shape r t scratch b home spare
    spot-sized home spare = rw (data-size-passes sized)

    -- so what a public read has promised is promised for any number of data bytes
    pub verdict-of : (home spare : List ℕ) (verdict : Result Unit Refusal) → Judge size shape r t scratch b home spare verdict → JudgeSized size shape r t scratch b home spare verdict
    verdict-of home spare verdict promise = rw (judge-sized home spare) at promise

    pub part_of : (home spare part : Bor (List ℕ)) → Data size shape r t scratch b home spare part → DataSized size shape r t scratch b home spare part
    part_of home spare part promise = rw (data-sized home spare) at promise

    pub spot-of : (home spare : List ℕ) (spot : Result Spot Refusal) → Spots size shape r t scratch b home spare spot → SpotSized size shape r t scratch b home spare spot
    spot-of home spare spot promise = rw (spot-sized home spare) at promise

  pub good-size : (home spare : List ℕ) {done : Unit} → Judge size shape r t scratch b home spare (Ok done) → Size size
  good-size home spare passes = sized-shows size (block_read_fault size shape r t scratch b home spare) passes

  module _ (some : data_size_fault size ≡ 0 → ⊥) where
    -- a size that is refused is refused 1
    refuses : (fault : ℕ) → (data_size_fault size or_else fault) ≡ out_of_range
    unfolding data_size_fault
    refuses fault = by_bool (is_size size) (λ e. absurd (some (rw e))) (λ e. rw e)

    pub size-refuses : (home spare : List ℕ) {verdict : Result Unit Refusal} → Judge size shape r t scratch b home spare verdict → verdict ≡ Err OutOfRange
    size-refuses home spare {verdict} promise =
        let fault = block_read_fault size shape r t scratch b home spare in
        passes-one (data_size_fault size or_else fault) verdict (Err OutOfRange) promise (refuses fault)

    pub size-unspotted : (home spare : List ℕ) {spot : Result Spot Refusal} → Spots size shape r t scratch b home spare spot → spot ≡ Err OutOfRange
    size-unspotted home spare {spot} promise =
        let fault = block_read_fault size shape r t scratch b home spare in
        gives-refused (data_size_fault size or_else fault) (spot_of size shape r t b) spot OutOfRange (refuses fault) promise

    pub size-lends-none : (home spare part : Bor (List ℕ)) → Data size shape r t scratch b home spare part → LendsNone home part
    size-lends-none home spare part lent = data-refused size shape r t scratch b home spare part lent (λ none. some (or_else-first (data_size_fault size) _ none))
