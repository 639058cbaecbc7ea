-- Demand 1 holds. A call's promise makes its answer by a chain of checks, and the chain gives exactly the numbers of the paper's table; so each call answers and refuses by the numbers, and what it is lent keeps its bytes where it refuses. `demand1`, at the end, is the demand whole.
-- Assumes nothing.
use Prim.Native.Nat.{ℕ}
use Rattle.std.specs.Prelude.{Result, Option, ℤ}
use mathlib.Core.Path.{refl, ◌∙◌, ap}
use mathlib.Core.Bool.{Bool}
use mathlib.Core.List.{List}
use lib.ListN.{length}
use denote.Ref.{Bor}
use Rattle.paper.specs.Answers.{said_number}
use Rattle.paper.specs.Checks.{◌or_else◌}
use Rattle.paper.specs.Exactly.{◌and_then◌}
use Rattle.paper.specs.Limits.{data_size_fault, DataSizeJudged}
use Rattle.paper.proofs.Chain.{or_else-next}
use Rattle.paper.proofs.Rows.{sized-exactly}
use Rattle.paper.specs.declared.Refusal.{Refusal}
use Rattle.shape.specs.declared.Shape.{Shape}
use Rattle.shape.specs.Addresses.{SectorOfJudged as ShapeSectorOfJudged, AddressOfJudged as ShapeAddressOfJudged}
use Rattle.shape.specs.Promises.{SectorOf as ShapeSectorOf, AddressOf as ShapeAddressOf}
use Rattle.shape.proofs.Exact.{sector-of-exactly as shape-sector-of-exactly, address-of-exactly as shape-address-of-exactly}
use Rattle.shape.specs.declared.Address.{Address}
use Rattle.skip.specs.Translation.{SectorOfJudged, BlockOnJudged}
use Rattle.skip.specs.Cursors.{CheckJudged, StepJudged}
use Rattle.skip.specs.Promises.{SectorOf, BlockOn, Starts, Checks, Steps}
use Rattle.skip.specs.declared.Cursor.{Cursor}
use Rattle.skip.proofs.Exact.{sector-of-exactly, block-on-exactly, check-exactly, step-exactly}
use Rattle.skipped.specs.Faults.{AddressOfJudged as SkippedAddressOfJudged, BlockAtJudged as SkippedBlockAtJudged}
use Rattle.skipped.specs.Promises.{AddressOf as SkippedAddressOf, BlockAt as SkippedBlockAt}
use Rattle.skipped.proofs.Exact.{address-of-exactly as skipped-address-of-exactly, block-at-exactly as skipped-block-at-exactly}
use Rattle.page.specs.Pages.{ReadJudged as PageReadJudged, WriteJudged as PageWriteJudged}
use Rattle.page.specs.Promises.{said_paged, Reads, Writes}
use Rattle.page.specs.declared.Paged.{Paged}
use Rattle.page.proofs.Exact.{read-exactly as page-read-exactly, write-exactly as page-write-exactly}
use Rattle.format.specs.Spaces.{FormatJudged}
use Rattle.format.specs.Promises.{said_formatted, Formats}
use Rattle.format.specs.declared.Formatted.{Formatted}
use Rattle.format.proofs.Exact.{format-exactly}
use Rattle.table.specs.Rules.{TableJudged, BlockJudged}
use Rattle.table.proofs.Exact.{table-exactly}
use Rattle.first_table.specs.Tables.{FirstTableJudged}
use Rattle.first_table.specs.Promises.{FirstTable}
use Rattle.first_table.proofs.Exact.{first-exactly}
use Rattle.spares.specs.Spares.{BlockOnJudged as SpareBlockOnJudged, BlockAtJudged as SpareBlockAtJudged, ReplaceJudged}
use Rattle.spares.specs.Promises.{SectorOf as SpareSectorOf, AddressOf as SpareAddressOf, ShiftOf, BlockOn as SpareBlockOn, BlockAt as SpareBlockAt, Replacement, CensusOf}
use Rattle.spares.proofs.Exact.{block-on-exactly as spare-block-on-exactly, block-at-exactly as spare-block-at-exactly, replace-exactly}
use Rattle.table.proofs.Exact.{block-exactly}
use Rattle.table.specs.declared.Census.{Census}
use Rattle.image.specs.Image.{image_fault}
use Rattle.image.specs.Judged.{HeaderJudged, ImageJudged, WriteJudged}
use Rattle.image.specs.Promises.{Write, Header, Judge, Data}
use Rattle.image.specs.declared.Head.{Head}
use Rattle.image.proofs.Exact.{header-exactly, judge-exactly, write-exactly, image-length}
use Rattle.image.proofs.Images.{length-data}
use Rattle.image.proofs.Lent.{data-refused, data-accepted}
use Rattle.mode.specs.Modes.{ModeJudged}
use Rattle.mode.specs.Promises.{Finds}
use Rattle.mode.proofs.Exact.{mode-exactly}
use Rattle.reading.specs.Faults.{block_read_fault}
use Rattle.reading.specs.Judged.{BlockReadJudged}
use Rattle.reading.specs.Promises.{TracksOf, Judge as ReadJudge, Data as ReadData, Spots}
use Rattle.reading.specs.declared.answers.Spot.{Spot}
use Rattle.reading.proofs.Exact.{read-exactly}
use Rattle.reading.proofs.Parts.{read_length, data-refused as read-refused, data-accepted as read-accepted}
use Rattle.reading.specs.declared.answers.Pair.{Pair}
use Rattle.demands.specs.Relations.{Keeps, PartBy}
use Rattle.demands.specs.Numbered.{NumberBy, NamedBy, LocatedBy, JobBy, StepBy, PagedBy, FormattedBy, ShiftedBy, CountedBy, HeadBy, VerdictBy, TracksBy, SpotBy}
use Rattle.demands.specs.Demand1.{EachByTheNumbers, EachKeeps, Demand1}
use Rattle.demands.proofs.Chains.{keeps}
use Rattle.demands.proofs.ByKind.{number-by, named_by, located-by, job-by, step-by, paged-by, formatted-by, shifted_by, counted-by, head-by, verdict-by, tracks-by, spot-by}
use Rattle.demands.proofs.Rooms.{each-hands}
use Rattle.demands.proofs.Determined.{each-determined}
use Rattle.demands.proofs.ThereAndBack.{each_again}

-- a drive by its shape
module _ (shape : Shape) where
  pub shape-sector-of :
      (cylinder head sector : ℕ) (result : Result ℕ Refusal) → ShapeSectorOf shape cylinder head sector result →
      NumberBy (ShapeSectorOfJudged shape cylinder head sector) result
  shape-sector-of cylinder head sector result promise = number-by (shape-sector-of-exactly shape cylinder head sector) _ result promise

  pub shape-address-of : (sector : ℕ) (result : Result Address Refusal) → ShapeAddressOf shape sector result → LocatedBy (ShapeAddressOfJudged shape sector) result
  shape-address-of sector result promise = located-by (shape-address-of-exactly shape sector) _ result promise

-- a skipped drive: N sectors and a list
module _ (n : ℕ) (a : List ℕ) where
  pub skip-sector-of : (b : ℕ) (result : Result ℕ Refusal) → SectorOf n a b result → NumberBy (SectorOfJudged n a b) result
  skip-sector-of b result promise = number-by (sector-of-exactly n a b) _ result promise

  pub skip-block-on : (s : ℕ) (result : Result (Option ℕ) Refusal) → BlockOn n a s result → NamedBy (BlockOnJudged n a s) result
  skip-block-on s result promise = named_by (block-on-exactly n a s) _ result promise

  -- a refusal of these two says an empty cursor
  pub cursor-start : (b : ℕ) (result : Result Cursor Refusal) → Starts n a b result → JobBy (SectorOfJudged n a b) result
  cursor-start b result promise = job-by (sector-of-exactly n a b) _ result promise

  pub cursor-check : (c : Cursor) (result : Result Cursor Refusal) → Checks n a c result → JobBy (CheckJudged n a c) result
  cursor-check c result promise = job-by (check-exactly n a c) _ result promise

  -- a refused step leaves its cursor
  pub cursor-step : (c : Cursor) (result : Result ℕ Refusal) (after : Cursor) → Steps n a c result after → StepBy c (StepJudged n a c) (result, after)
  cursor-step c result after promise = step-by (step-exactly n a c) _ result after promise

-- a skipped drive by its shape
module _ (shape : Shape) (a : List ℕ) where
  pub skipped-address-of : (b : ℕ) (result : Result Address Refusal) → SkippedAddressOf shape a b result → LocatedBy (SkippedAddressOfJudged shape a b) result
  skipped-address-of b result promise = located-by (skipped-address-of-exactly shape a b) _ result promise

  pub skipped-block-at :
      (cylinder head sector : ℕ) (result : Result (Option ℕ) Refusal) → SkippedBlockAt shape a cylinder head sector result →
      NamedBy (SkippedBlockAtJudged shape a cylinder head sector) result
  skipped-block-at cylinder head sector result promise =
      named_by (skipped-block-at-exactly shape a cylinder head sector) _ result promise

-- the list page
module _ (page room : List ℕ) (result : Result Paged Refusal) (after : List ℕ) (promise : Reads page room result after) where
  pub page-read : PagedBy (PageReadJudged page room) result
  page-read = paged-by (page-read-exactly page room) _ result promise.gives

  pub page-read-keeps : Keeps (said_paged result).0 room after
  page-read-keeps = keeps said_paged (λ numbers. numbers.0) (λ k. (k, 0, 0, 0)) (λ answer. refl) (λ refusal. refl) (λ k. refl) result promise

module _ (n kind : ℕ) (list room : List ℕ) (result : Result ℕ Refusal) (after : List ℕ) (promise : Writes n kind list room result after) where
  pub page-write : NumberBy (PageWriteJudged n kind list room) result
  page-write = number-by (page-write-exactly n kind list room) _ result promise.gives

  pub page-write-keeps : Keeps (said_number result).0 room after
  page-write-keeps = keeps said_number (λ numbers. numbers.0) (λ k. (k, 0)) (λ answer. refl) (λ refusal. refl) (λ k. refl) result promise

-- Format
module _
    (n : ℕ)
    (p g : List ℕ)
    (space option : ℕ)
    (d grown list : List ℕ)
    (result : Result Formatted Refusal)
    (grown_after list_after : List ℕ)
    (promise : Formats n p g space option d grown list result grown_after list_after)
  where
    pub format-format : FormattedBy (FormatJudged n p g space option d grown list) result
    format-format = formatted-by (format-exactly n p g space option d grown list) _ result promise.gives

    -- neither room is written where either is short
    pub format-keeps : Keeps {Lent = List ℕ × List ℕ} (said_formatted result).0 (grown, list) (grown_after, list_after)
    format-keeps = keeps said_formatted (λ numbers. numbers.0) (λ k. (k, 0, 0, 0)) (λ answer. refl) (λ refusal. refl) (λ k. refl) result promise

-- a revectored drive: shape, spares of a track and table
module _ (shape : Shape) (r : ℕ) (t scratch : List ℕ) where
  pub spares-sector-of : (b : ℕ) (result : Result ℕ Refusal) → SpareSectorOf shape r t scratch b result → NumberBy (BlockJudged shape r t scratch b) result
  spares-sector-of b result promise = number-by (block-exactly shape r t scratch b) _ result promise

  pub spares-address-of : (b : ℕ) (result : Result Address Refusal) → SpareAddressOf shape r t scratch b result → LocatedBy (BlockJudged shape r t scratch b) result
  spares-address-of b result promise = located-by (block-exactly shape r t scratch b) _ result promise

  pub spares-shift : (b : ℕ) (result : Result ℤ Refusal) → ShiftOf shape r t scratch b result → ShiftedBy (BlockJudged shape r t scratch b) result
  spares-shift b result promise = shifted_by (block-exactly shape r t scratch b) _ result promise

  pub spares-block-on : (s : ℕ) (result : Result (Option ℕ) Refusal) → SpareBlockOn shape r t scratch s result → NamedBy (SpareBlockOnJudged shape r t scratch s) result
  spares-block-on s result promise = named_by (spare-block-on-exactly shape r t scratch s) _ result promise

  pub spares-block-at :
      (cylinder head sector : ℕ) (result : Result (Option ℕ) Refusal) → SpareBlockAt shape r t scratch cylinder head sector result →
      NamedBy (SpareBlockAtJudged shape r t scratch cylinder head sector) result
  spares-block-at cylinder head sector result promise =
      named_by (spare-block-at-exactly shape r t scratch cylinder head sector) _ result promise

  pub reading-tracks : (b : ℕ) (result : Result Pair Refusal) → TracksOf shape r t scratch b result → TracksBy (BlockJudged shape r t scratch b) result
  reading-tracks b result promise = tracks-by (block-exactly shape r t scratch b) _ result promise

  pub spares-census : (result : Result Census Refusal) → CensusOf shape r t scratch result → CountedBy (TableJudged shape r t scratch) result
  spares-census result promise = counted-by (table-exactly shape r t scratch) _ result promise

module _ (shape : Shape) (r : ℕ) (t scratch : List ℕ) (b : ℕ) (result : Result ℕ Refusal) (after : List ℕ) (promise : Replacement shape r t scratch b result after) where
  pub spares-replace : NumberBy (ReplaceJudged shape r t scratch b) result
  spares-replace = number-by (replace-exactly shape r t scratch b) _ result promise.gives

  pub spares-replace-keeps : Keeps (said_number result).0 t after
  spares-replace-keeps = keeps said_number (λ numbers. numbers.0) (λ k. (k, 0)) (λ answer. refl) (λ refusal. refl) (λ k. refl) result promise

module _ (shape : Shape) (r : ℕ) (list room : List ℕ) (result : Result ℕ Refusal) (after : List ℕ) (promise : FirstTable shape r list room result after) where
  pub spares-first-table : NumberBy (FirstTableJudged shape r list room) result
  spares-first-table = number-by (first-exactly shape r list room) _ result promise.gives

  pub spares-first-table-keeps : Keeps (said_number result).0 room after
  spares-first-table-keeps = keeps said_number (λ numbers. numbers.0) (λ k. (k, 0)) (λ answer. refl) (λ refusal. refl) (λ k. refl) result promise

-- the sector image
module _ (size block code : ℕ) (bytes : List ℕ) (forced : Bool) (room : List ℕ) (result : Result ℕ Refusal) (after : List ℕ) (promise : Write size block code bytes forced room result after) where
  pub image-write : NumberBy (DataSizeJudged size and_then WriteJudged size block code bytes room) result
  image-write = number-by (sized-exactly size (WriteJudged size block code bytes room) (write-exactly size block code bytes room)) _ result promise.gives

  pub image-write-keeps : Keeps (said_number result).0 room after
  image-write-keeps = keeps said_number (λ numbers. numbers.0) (λ k. (k, 0)) (λ answer. refl) (λ refusal. refl) (λ k. refl) result promise

pub image-header : (size : ℕ) (image : List ℕ) (result : Result Head Refusal) → Header size image result → HeadBy (DataSizeJudged size and_then HeaderJudged size image) result
image-header size image result promise = head-by (sized-exactly size (HeaderJudged size image) (header-exactly image size)) _ result promise

pub image-judge :
    (size : ℕ) (image : List ℕ) (block code : ℕ) (result : Result Unit Refusal) → Judge size image block code result →
    VerdictBy (DataSizeJudged size and_then ImageJudged size image block code) result
image-judge size image block code result promise = verdict-by (sized-exactly size (ImageJudged size image block code) (judge-exactly image size block code)) result promise

-- the part is empty exactly where the verdict refuses
pub image-data :
    (size : ℕ) (image : Bor (List ℕ)) (block code : ℕ) (part : Bor (List ℕ)) → Data size image block code part →
    PartBy (DataSizeJudged size and_then ImageJudged size image.now block code) size part.now
image-data size image block code part promise =
    let fault = image_fault size image.now block code in
    record {
      number = data_size_fault size or_else fault;
      exactly = sized-exactly size (ImageJudged size image.now block code) (judge-exactly image.now size block code);
      refused-empty = λ some. (data-refused size image block code part promise some).holds;
      accepted-whole =
          λ passes.
          ap length (data-accepted size image block code part promise passes).holds
          ∙ length-data size image.now (image-length image.now size block code (or_else-next (data_size_fault size) fault passes));
    }

-- the mode sector
pub mode-find : (images : List ℕ) (apart : ℕ) (result : Result ℕ Refusal) → Finds images apart result → NumberBy (ModeJudged images apart) result
mode-find images apart result promise = number-by (mode-exactly images apart) _ result promise

-- a read of a revectored block
module _ (size : ℕ) (shape : Shape) (r : ℕ) (t scratch : List ℕ) (b : ℕ) where
  pub reading-judge :
      (home spare : List ℕ) (result : Result Unit Refusal) → ReadJudge size shape r t scratch b home spare result →
      VerdictBy (DataSizeJudged size and_then BlockReadJudged size shape r t scratch b home spare) result
  reading-judge home spare result promise =
      verdict-by (sized-exactly size (BlockReadJudged size shape r t scratch b home spare) (read-exactly size shape r t scratch b home spare)) result promise

  pub reading-spot :
      (home spare : List ℕ) (result : Result Spot Refusal) → Spots size shape r t scratch b home spare result →
      SpotBy (DataSizeJudged size and_then BlockReadJudged size shape r t scratch b home spare) result
  reading-spot home spare result promise =
      spot-by (sized-exactly size (BlockReadJudged size shape r t scratch b home spare) (read-exactly size shape r t scratch b home spare))
      _ result promise

  pub reading-data :
      (home spare part : Bor (List ℕ)) → ReadData size shape r t scratch b home spare part →
      PartBy (DataSizeJudged size and_then BlockReadJudged size shape r t scratch b home.now spare.now) size part.now
  reading-data home spare part promise =
      let fault = block_read_fault size shape r t scratch b home.now spare.now in
      record {
        number = data_size_fault size or_else fault;
        exactly = sized-exactly size (BlockReadJudged size shape r t scratch b home.now spare.now) (read-exactly size shape r t scratch b home.now spare.now);
        refused-empty = λ some. (read-refused size shape r t scratch b home spare part promise some).holds;
        accepted-whole =
            λ passes.
            ap length (read-accepted size shape r t scratch b home spare part promise passes).holds
            ∙ read_length size shape r t scratch b home.now spare.now (or_else-next (data_size_fault size) fault passes);
      }

-- each sentence, call by call
each-by-the-numbers : EachByTheNumbers
each-by-the-numbers =
    record {
      shape-sector-of = shape-sector-of;
      shape-address-of = shape-address-of;
      skip-sector-of = skip-sector-of;
      skip-block-on = skip-block-on;
      cursor-start = cursor-start;
      cursor-check = cursor-check;
      cursor-step = cursor-step;
      skipped-address-of = skipped-address-of;
      skipped-block-at = skipped-block-at;
      page-read = page-read;
      page-write = page-write;
      format-format = format-format;
      spares-sector-of = spares-sector-of;
      spares-address-of = spares-address-of;
      spares-shift = spares-shift;
      spares-block-on = spares-block-on;
      spares-block-at = spares-block-at;
      spares-replace = spares-replace;
      spares-census = spares-census;
      spares-first-table = spares-first-table;
      image-write = image-write;
      image-header = image-header;
      image-judge = image-judge;
      image-data = image-data;
      mode-find = mode-find;
      reading-tracks = reading-tracks;
      reading-judge = reading-judge;
      reading-spot = reading-spot;
      reading-data = reading-data;
    }

each_keeps : EachKeeps
each_keeps =
    record {
      page-read = page-read-keeps;
      page-write = page-write-keeps;
      format-format = format-keeps;
      spares-replace = spares-replace-keeps;
      spares-first-table = spares-first-table-keeps;
      image-write = image-write-keeps;
    }

-- the demand whole
pub demand1 : Demand1
demand1 =
    record {
      by-the-numbers = each-by-the-numbers;
      lent-kept = each_keeps;
      front-filled = each-hands;
      no-choice = each-determined;
      read_again = each_again;
    }
