-- Each public call's promise leaves no choice: what it allows for the same inputs is one result, one content of each lent room, one part and one place of it.
-- Assumes nothing.
use Prim.Native.Nat.{ℕ, ◌+◌}
use Rattle.std.specs.Prelude.{Result}
use mathlib.Core.Path.{◌≡◌, refl, sym, ◌∙◌}
use mathlib.Core.Bool.{Bool}
use mathlib.Core.List.{List}
use lib.ListN.{length}
use denote.Ref.{Bor}
use Rattle.paper.specs.Limits.{image_extra, Size}
use Rattle.paper.specs.Answers.{said_verdict}
use Rattle.paper.specs.Promise.{Passes, Gives, Fills}
use Rattle.paper.proofs.Kept.{passes-one, gives-one, fills-one}
use Rattle.paper.proofs.Rows.{data-size-passes}
use Rattle.paper.specs.declared.Refusal.{Refusal}
use Rattle.shape.specs.declared.Shape.{Shape}
use Rattle.shape.specs.Promises as Shapes
use Rattle.skip.specs.declared.Cursor.{Cursor}
use Rattle.skip.specs.Promises as Skip
use Rattle.skipped.specs.Promises as Skipped
use Rattle.page.specs.Promises as Page
use Rattle.format.specs.Promises.{Formats}
use Rattle.table.specs.Scratch.{Scratched}
use Rattle.first_table.specs.Promises.{FirstTable}
use Rattle.spares.specs.Promises as Spares
use Rattle.image.specs.Image.{pair_fault}
use Rattle.image.specs.Judged.{ContentsJudged}
use Rattle.image.specs.Promises as Image
use Rattle.image.proofs.Exact.{sector-one, pair-exactly, image-pair}
use Rattle.image.proofs.Lent.{data-one}
use Rattle.reading.specs.Promises as Reading
use Rattle.mode.specs.Promises.{Finds}
use Rattle.reading.proofs.Parts.{data-one as read_one}
use Rattle.demands.specs.Relations.{OneResult, OneStep, OneFilled, OneFilledTwice, OneLent}
use Rattle.demands.specs.Demand1.{EachDetermined}
use Rattle.demands.proofs.Chains.{passes-chained, says-fault}

module _ {Answer : Type 0} (fault : ℕ) (accepted : Answer) where
  pub gives-determines : OneResult (Gives fault accepted)
  gives-determines first second one other = gives-one fault accepted first second one other

  pub fills-determines : (before filled : List ℕ) → OneFilled (Fills fault accepted before filled)
  fills-determines before filled first second one other = let same = fills-one one other in λ i. (same.0 i, same.1 i)

  pub steps-determines : (before filled : Cursor) → OneStep (Fills fault accepted before filled)
  steps-determines before filled first second one other = let same = fills-one one other in λ i. (same.0 i, same.1 i)

pub passes-determines : (fault : ℕ) → OneResult (Passes fault)
passes-determines fault first second one other = passes-one fault first second one other

pub formats-determines :
    (n : ℕ) (p g : List ℕ) (space option : ℕ) (d grown list : List ℕ) → OneFilledTwice (Formats n p g space option d grown list)
formats-determines n p g space option d grown list first second one other =
    let same = fills-one one other in λ i. (same.0 i, (same.1 i).0, (same.1 i).1)

module _ (n : ℕ) (a : List ℕ) where
  pub skip-sector-of : (b : ℕ) → OneResult (Skip.SectorOf n a b)
  skip-sector-of b = gives-determines _ _

  pub skip-block-on : (s : ℕ) → OneResult (Skip.BlockOn n a s)
  skip-block-on s = gives-determines _ _

  pub skip-cursor-start : (b : ℕ) → OneResult (Skip.Starts n a b)
  skip-cursor-start b = gives-determines _ _

  pub skip-cursor-check : (c : Cursor) → OneResult (Skip.Checks n a c)
  skip-cursor-check c = gives-determines _ _

  pub skip-cursor-step : (c : Cursor) → OneStep (Skip.Steps n a c)
  skip-cursor-step c = steps-determines _ _ _ _

module _ (shape : Shape) where
  pub shape-sector-of : (cylinder head sector : ℕ) → OneResult (Shapes.SectorOf shape cylinder head sector)
  shape-sector-of cylinder head sector = gives-determines _ _

  pub shape-address-of : (sector : ℕ) → OneResult (Shapes.AddressOf shape sector)
  shape-address-of sector = gives-determines _ _

  pub skipped-address-of : (a : List ℕ) (b : ℕ) → OneResult (Skipped.AddressOf shape a b)
  skipped-address-of a b = gives-determines _ _

  pub skipped-block-at : (a : List ℕ) (cylinder head sector : ℕ) → OneResult (Skipped.BlockAt shape a cylinder head sector)
  skipped-block-at a cylinder head sector = gives-determines _ _

pub page-read : (page room : List ℕ) → OneFilled (Page.Reads page room)
page-read page room = fills-determines _ _ _ _

pub page-write : (n kind : ℕ) (list room : List ℕ) → OneFilled (Page.Writes n kind list room)
page-write n kind list room = fills-determines _ _ _ _

pub format-format :
    (n : ℕ) (p g : List ℕ) (space option : ℕ) (d grown list : List ℕ) → OneFilledTwice (Formats n p g space option d grown list)
format-format = formats-determines

module _ (shape : Shape) (r : ℕ) (t scratch : List ℕ) where
  pub spares-sector-of : (b : ℕ) → OneResult (Spares.SectorOf shape r t scratch b)
  spares-sector-of b = gives-determines _ _

  pub spares-address-of : (b : ℕ) → OneResult (Spares.AddressOf shape r t scratch b)
  spares-address-of b = gives-determines _ _

  pub spares-shift : (b : ℕ) → OneResult (Spares.ShiftOf shape r t scratch b)
  spares-shift b = gives-determines _ _

  pub spares-block-on : (s : ℕ) → OneResult (Spares.BlockOn shape r t scratch s)
  spares-block-on s = gives-determines _ _

  pub spares-block-at : (cylinder head sector : ℕ) → OneResult (Spares.BlockAt shape r t scratch cylinder head sector)
  spares-block-at cylinder head sector = gives-determines _ _

  pub spares-replace : (b : ℕ) → OneFilled (Spares.Replacement shape r t scratch b)
  spares-replace b = fills-determines _ _ _ _

  pub reading-tracks : (b : ℕ) → OneResult (Reading.TracksOf shape r t scratch b)
  reading-tracks b = gives-determines _ _

  pub spares-census : OneResult (Spares.CensusOf shape r t scratch)
  spares-census = gives-determines _ _

pub spares-first-table : (shape : Shape) (r : ℕ) (list room : List ℕ) → OneFilled (FirstTable shape r list room)
spares-first-table shape r list room = fills-determines _ _ _ _

module _ (size : ℕ) where
  pub image-write : (block code : ℕ) (bytes : List ℕ) (forced : Bool) (room : List ℕ) → OneFilled (Image.Write size block code bytes forced room)
  image-write block code bytes forced room = fills-determines _ _ _ _

  pub image-header : (image : List ℕ) → OneResult (Image.Header size image)
  image-header image = gives-determines _ _

  pub image-judge : (image : List ℕ) (block code : ℕ) → OneResult (Image.Judge size image block code)
  image-judge image block code = passes-determines _

  pub image-data : (image : Bor (List ℕ)) (block code : ℕ) → OneLent (Image.Data size image block code)
  image-data image block code first second one other =
      let same = data-one size image block code first second one other in λ i. (same.0 i, same.1 i)

pub mode-find : (images : List ℕ) (apart : ℕ) → OneResult (Finds images apart)
mode-find images apart = gives-determines _ _

module _ (size : ℕ) (shape : Shape) (r : ℕ) (t scratch : List ℕ) (b : ℕ) where
  pub reading-judge : (home spare : List ℕ) → OneResult (Reading.Judge size shape r t scratch b home spare)
  reading-judge home spare = passes-determines _

  pub reading-data : (home spare : Bor (List ℕ)) → OneLent (Reading.Data size shape r t scratch b home spare)
  reading-data home spare first second one other =
      let same = read_one size shape r t scratch b home spare first second one other in λ i. (same.0 i, same.1 i)

  pub reading-spot : (home spare : List ℕ) → OneResult (Reading.Spots size shape r t scratch b home spare)
  reading-spot home spare = gives-determines _ _

-- what is left of scratch
pub scratch : (shape : Shape) (r : ℕ) (before : List ℕ) → OneResult (Scratched shape r before)
scratch shape r before first second one other = one ∙ sym other

pub read-scratch : (size : ℕ) (shape : Shape) (r : ℕ) (before : List ℕ) → OneResult (Reading.ReadScratched size shape r before)
read-scratch size shape r before first second one other = one ∙ sym other

-- what an image holds has one verdict
pub one-verdict :
    (size : ℕ) (image : List ℕ) (block code j k : ℕ) → ContentsJudged size image block code j → ContentsJudged size image block code k → j ≡ k
one-verdict size image block code j k = sector-one image size block code j k

-- the call says the number of its row
pub verdict-of-row :
    (size : ℕ) → Size size → (image : List ℕ) (block code k : ℕ) → length image ≡ size + image_extra → ContentsJudged size image block code k →
    (result : Result Unit Refusal) → Image.Judge size image block code result → said_verdict result ≡ k
verdict-of-row size sized image block code k long row result promise =
    says-fault said_verdict (λ said. said) (λ k. k) (λ answer. refl) (λ refusal. refl) (λ k. refl) _ result (passes-chained _ result promise)
    ∙ rw (data-size-passes sized) (image-pair image size block code long)
    ∙ one-verdict size image block code (pair_fault size image block code) k (pair-exactly image size block code).judged row

-- each of them
pub each-determined : EachDetermined
each-determined =
    record {
      shape-sector-of = shape-sector-of;
      shape-address-of = shape-address-of;
      skip-sector-of = skip-sector-of;
      skip-block-on = skip-block-on;
      cursor-start = skip-cursor-start;
      cursor-check = skip-cursor-check;
      cursor-step = skip-cursor-step;
      skipped-address-of = skipped-address-of;
      skipped-block-at = skipped-block-at;
      page-read = page-read;
      page-write = page-write;
      format-format = format-format;
      spares-sector-of = spares-sector-of;
      spares-address-of = spares-address-of;
      spares-shift = spares-shift;
      spares-block-on = spares-block-on;
      spares-block-at = spares-block-at;
      spares-replace = spares-replace;
      spares-census = spares-census;
      spares-first-table = spares-first-table;
      image-write = image-write;
      image-header = image-header;
      image-judge = image-judge;
      image-data = image-data;
      mode-find = mode-find;
      reading-tracks = reading-tracks;
      reading-judge = reading-judge;
      reading-spot = reading-spot;
      reading-data = reading-data;
      scratch = scratch;
      read-scratch = read-scratch;
      one-verdict = one-verdict;
      verdict-of-row = verdict-of-row;
    }
