-- Demand 1: every call takes whatever it is handed, ends, and answers or refuses by the paper's numbers. The record `Demand1`, at the end, has a field for each sentence.
-- That a call takes anything and ends is no field: none of the 29 calls below has a `requires`, and Rattle proves of each function that it is safe and ends.
-- A call on a sector image or on a read, but for the tracks of a read, is handed the size of a sector's data first; what is said of it is said of whatever size, and any but the two is refused 1.
use Rattle.std.specs.Prelude.{ℕ, ◌+◌, ◌*◌, ◌^◌, ◌<◌, ◌≤◌, ◌≡◌, Bool, true, false, List, [], length, get_or, set, take, Result, Ok, Err, Option, ℤ}
use Rattle.std.specs.Int.Bits.{bit_xor}
use Rattle.std.specs.Borrow.{Bor}
use Rattle.paper.specs.Answers.{said_number, said_verdict}
use Rattle.paper.specs.Exactly.{◌and_then◌}
use Rattle.paper.specs.Limits.{header_size, image_extra, Size, DataSizeJudged}
use Rattle.paper.specs.Promise.{written}
use Rattle.paper.specs.declared.Refusal.{Refusal}
use Rattle.paper.specs.declared.Refusal.TheVariants.{OtherBlock, ForcedError}
use Rattle.words.specs.Coded.{word_of}
use Rattle.words.specs.Words.{Bytes}
use Rattle.shape.specs.declared.Shape.{Shape}
use Rattle.shape.specs.declared.Address.{Address}
use Rattle.shape.specs.Addresses.{with_angle, SectorOfJudged as ShapeSectorOfJudged, AddressOfJudged as ShapeAddressOfJudged}
use Rattle.shape.specs.Promises as Shapes
use Rattle.skip.specs.declared.Cursor.{Cursor}
use Rattle.skip.specs.Translation.{SectorOfJudged as SkipSectorOfJudged, BlockOnJudged as SkipBlockOnJudged}
use Rattle.skip.specs.Cursors.{CheckJudged, StepJudged}
use Rattle.skip.specs.Promises as Skip
use Rattle.skipped.specs.Faults.{AddressOfJudged as SkippedAddressOfJudged, BlockAtJudged as SkippedBlockAtJudged}
use Rattle.skipped.specs.Promises as Skipped
use Rattle.page.specs.declared.Paged.{Paged}
use Rattle.page.specs.Layout.{kind_of, units_of, entries_of}
use Rattle.page.specs.Pages.{page_bytes, ReadJudged as PageReadJudged, WriteJudged as PageWriteJudged}
use Rattle.page.specs.Promises as Page
use Rattle.format.specs.declared.Formatted.{Formatted}
use Rattle.format.specs.Spaces.{new_grown, new_list, new_space, FormatJudged}
use Rattle.format.specs.Promises.{said_formatted, Formats}
use Rattle.layout.specs.Layouts.{drive_of}
use Rattle.table.specs.Rules.{TableJudged, BlockJudged}
use Rattle.table.specs.Scratch.{Scratched}
use Rattle.table.specs.declared.Census.{Census}
use Rattle.first_table.specs.Tables.{first_table, IsFirstTable, FirstTableJudged}
use Rattle.first_table.specs.Promises.{FirstTable}
use Rattle.spares.specs.Spares.{BlockOnJudged as SpareBlockOnJudged, BlockAtJudged as SpareBlockAtJudged, ReplaceJudged}
use Rattle.spares.specs.Promises as Spares
use Rattle.image.specs.declared.Head.{Head}
use Rattle.image.specs.Code.{data_code}
use Rattle.image.specs.Image.{image_of}
use Rattle.image.specs.Judged.{HeadSays, ContentsJudged, HeaderJudged, ImageJudged, WriteJudged as ImageWriteJudged}
use Rattle.image.specs.Promises as Image
use Rattle.mode.specs.Modes.{ModeJudged}
use Rattle.mode.specs.Promises.{Finds}
use Rattle.reading.specs.declared.answers.Spot.{Spot}
use Rattle.reading.specs.Judged.{BlockReadJudged}
use Rattle.reading.specs.Promises as Reading
use Rattle.reading.specs.declared.answers.Pair.{Pair}
use Rattle.demands.specs.Relations.{Keeps, PartBy, Handed, OneResult, OneStep, OneFilled, OneFilledTwice, OneLent}
use Rattle.demands.specs.Numbered.{NumberBy, NamedBy, LocatedBy, JobBy, StepBy, PagedBy, FormattedBy, ShiftedBy, CountedBy, HeadBy, VerdictBy, TracksBy, SpotBy}

-- the number of each call is the one that the paper's table gives, exactly then; refused, the call says that number and nothing else; and no refusal is numbered 0
pub record EachByTheNumbers : Type 0 where
  -- a drive by its shape
  pub shape-sector-of :
      (shape : Shape) (cylinder head sector : ℕ) (result : Result ℕ Refusal) → Shapes.SectorOf shape cylinder head sector result →
      NumberBy (ShapeSectorOfJudged shape cylinder head sector) result
  pub shape-address-of :
      (shape : Shape) (sector : ℕ) (result : Result Address Refusal) → Shapes.AddressOf shape sector result → LocatedBy (ShapeAddressOfJudged shape sector) result
  -- a skipped drive: N sectors and a list
  pub skip-sector-of : (n : ℕ) (a : List ℕ) (b : ℕ) (result : Result ℕ Refusal) → Skip.SectorOf n a b result → NumberBy (SkipSectorOfJudged n a b) result
  pub skip-block-on : (n : ℕ) (a : List ℕ) (s : ℕ) (result : Result (Option ℕ) Refusal) → Skip.BlockOn n a s result → NamedBy (SkipBlockOnJudged n a s) result
  -- its job: a refused start or check says an empty cursor, but a refused step leaves the cursor that it was given
  pub cursor-start : (n : ℕ) (a : List ℕ) (b : ℕ) (result : Result Cursor Refusal) → Skip.Starts n a b result → JobBy (SkipSectorOfJudged n a b) result
  pub cursor-check : (n : ℕ) (a : List ℕ) (c : Cursor) (result : Result Cursor Refusal) → Skip.Checks n a c result → JobBy (CheckJudged n a c) result
  pub cursor-step :
      (n : ℕ) (a : List ℕ) (c : Cursor) (result : Result ℕ Refusal) (after : Cursor) → Skip.Steps n a c result after → StepBy c (StepJudged n a c) (result, after)
  -- a skipped drive by its shape
  pub skipped-address-of :
      (shape : Shape) (a : List ℕ) (b : ℕ) (result : Result Address Refusal) → Skipped.AddressOf shape a b result → LocatedBy (SkippedAddressOfJudged shape a b) result
  pub skipped-block-at :
      (shape : Shape) (a : List ℕ) (cylinder head sector : ℕ) (result : Result (Option ℕ) Refusal) → Skipped.BlockAt shape a cylinder head sector result →
      NamedBy (SkippedBlockAtJudged shape a cylinder head sector) result
  -- the list page
  pub page-read :
      (page room : List ℕ) (result : Result Paged Refusal) (after : List ℕ) → Page.Reads page room result after → PagedBy (PageReadJudged page room) result
  pub page-write :
      (n kind : ℕ) (list room : List ℕ) (result : Result ℕ Refusal) (after : List ℕ) → Page.Writes n kind list room result after →
      NumberBy (PageWriteJudged n kind list room) result
  -- Format
  pub format-format :
      (n : ℕ) (p g : List ℕ) (space option : ℕ) (d grown list : List ℕ) (result : Result Formatted Refusal) (grown_after list_after : List ℕ) →
      Formats n p g space option d grown list result grown_after list_after →
      FormattedBy (FormatJudged n p g space option d grown list) result
  -- a revectored drive: shape, spares of a track and table
  pub spares-sector-of :
      (shape : Shape) (r : ℕ) (t scratch : List ℕ) (b : ℕ) (result : Result ℕ Refusal) → Spares.SectorOf shape r t scratch b result → NumberBy (BlockJudged shape r t scratch b) result
  pub spares-address-of :
      (shape : Shape) (r : ℕ) (t scratch : List ℕ) (b : ℕ) (result : Result Address Refusal) → Spares.AddressOf shape r t scratch b result → LocatedBy (BlockJudged shape r t scratch b) result
  pub spares-shift :
      (shape : Shape) (r : ℕ) (t scratch : List ℕ) (b : ℕ) (result : Result ℤ Refusal) → Spares.ShiftOf shape r t scratch b result → ShiftedBy (BlockJudged shape r t scratch b) result
  pub spares-block-on :
      (shape : Shape) (r : ℕ) (t scratch : List ℕ) (s : ℕ) (result : Result (Option ℕ) Refusal) → Spares.BlockOn shape r t scratch s result → NamedBy (SpareBlockOnJudged shape r t scratch s) result
  pub spares-block-at :
      (shape : Shape) (r : ℕ) (t scratch : List ℕ) (cylinder head sector : ℕ) (result : Result (Option ℕ) Refusal) → Spares.BlockAt shape r t scratch cylinder head sector result →
      NamedBy (SpareBlockAtJudged shape r t scratch cylinder head sector) result
  pub spares-replace :
      (shape : Shape) (r : ℕ) (t scratch : List ℕ) (b : ℕ) (result : Result ℕ Refusal) (after : List ℕ) → Spares.Replacement shape r t scratch b result after →
      NumberBy (ReplaceJudged shape r t scratch b) result
  pub spares-census : (shape : Shape) (r : ℕ) (t scratch : List ℕ) (result : Result Census Refusal) → Spares.CensusOf shape r t scratch result → CountedBy (TableJudged shape r t scratch) result
  pub spares-first-table :
      (shape : Shape) (r : ℕ) (list room : List ℕ) (result : Result ℕ Refusal) (after : List ℕ) → FirstTable shape r list room result after →
      NumberBy (FirstTableJudged shape r list room) result
  -- the sector image
  pub image-write :
      (size block code : ℕ) (bytes : List ℕ) (forced : Bool) (room : List ℕ) (result : Result ℕ Refusal) (after : List ℕ) →
      Image.Write size block code bytes forced room result after → NumberBy (DataSizeJudged size and_then ImageWriteJudged size block code bytes room) result
  pub image-header : (size : ℕ) (image : List ℕ) (result : Result Head Refusal) → Image.Header size image result → HeadBy (DataSizeJudged size and_then HeaderJudged size image) result
  pub image-judge :
      (size : ℕ) (image : List ℕ) (block code : ℕ) (result : Result Unit Refusal) → Image.Judge size image block code result →
      VerdictBy (DataSizeJudged size and_then ImageJudged size image block code) result
  -- the part is empty exactly where the verdict refuses, and else as long as the data
  pub image-data :
      (size : ℕ) (image : Bor (List ℕ)) (block code : ℕ) (part : Bor (List ℕ)) → Image.Data size image block code part →
      PartBy (DataSizeJudged size and_then ImageJudged size image.now block code) size part.now
  -- the mode sector
  pub mode-find : (images : List ℕ) (apart : ℕ) (result : Result ℕ Refusal) → Finds images apart result → NumberBy (ModeJudged images apart) result
  -- a read of a revectored block: which tracks to fetch, and the read itself
  pub reading-tracks :
      (shape : Shape) (r : ℕ) (t scratch : List ℕ) (b : ℕ) (result : Result Pair Refusal) → Reading.TracksOf shape r t scratch b result → TracksBy (BlockJudged shape r t scratch b) result
  pub reading-judge :
      (size : ℕ) (shape : Shape) (r : ℕ) (t scratch : List ℕ) (b : ℕ) (home spare : List ℕ) (result : Result Unit Refusal) →
      Reading.Judge size shape r t scratch b home spare result → VerdictBy (DataSizeJudged size and_then BlockReadJudged size shape r t scratch b home spare) result
  pub reading-spot :
      (size : ℕ) (shape : Shape) (r : ℕ) (t scratch : List ℕ) (b : ℕ) (home spare : List ℕ) (result : Result Spot Refusal) →
      Reading.Spots size shape r t scratch b home spare result → SpotBy (DataSizeJudged size and_then BlockReadJudged size shape r t scratch b home spare) result
  -- the part, in the same way
  pub reading-data :
      (size : ℕ) (shape : Shape) (r : ℕ) (t scratch : List ℕ) (b : ℕ) (home spare part : Bor (List ℕ)) →
      Reading.Data size shape r t scratch b home spare part →
      PartBy (DataSizeJudged size and_then BlockReadJudged size shape r t scratch b home.now spare.now) size part.now

-- what is lent to each of the six calls that write stays as it was where the call refuses; what is left of scratch is said in `Scratches`
pub record EachKeeps : Type 0 where
  pub page-read :
      (page room : List ℕ) (result : Result Paged Refusal) (after : List ℕ) → Page.Reads page room result after → Keeps (Page.said_paged result).0 room after
  pub page-write :
      (n kind : ℕ) (list room : List ℕ) (result : Result ℕ Refusal) (after : List ℕ) → Page.Writes n kind list room result after →
      Keeps (said_number result).0 room after
  -- neither room of Format is written where either is short
  pub format-format :
      (n : ℕ) (p g : List ℕ) (space option : ℕ) (d grown list : List ℕ) (result : Result Formatted Refusal) (grown_after list_after : List ℕ) →
      Formats n p g space option d grown list result grown_after list_after →
      Keeps {Lent = List ℕ × List ℕ} (said_formatted result).0 (grown, list) (grown_after, list_after)
  -- a replacement is lent the table itself
  pub spares-replace :
      (shape : Shape) (r : ℕ) (t scratch : List ℕ) (b : ℕ) (result : Result ℕ Refusal) (after : List ℕ) → Spares.Replacement shape r t scratch b result after →
      Keeps (said_number result).0 t after
  pub spares-first-table :
      (shape : Shape) (r : ℕ) (list room : List ℕ) (result : Result ℕ Refusal) (after : List ℕ) → FirstTable shape r list room result after →
      Keeps (said_number result).0 room after
  pub image-write :
      (size block code : ℕ) (bytes : List ℕ) (forced : Bool) (room : List ℕ) (result : Result ℕ Refusal) (after : List ℕ) →
      Image.Write size block code bytes forced room result after → Keeps (said_number result).0 room after

-- what each call that fills a room hands back; what a replacement does to its table is said by demand 2
pub record EachHands : Type 0 where
  -- the kind, N and the entries of a page
  pub page-read :
      (page room : List ℕ) (kind n entries : ℕ) (after : List ℕ) → Page.Reads page room (Ok (record { kind = kind; n = n; entries = entries })) after →
      (kind ≡ kind_of page) × ((n ≡ units_of page) × Handed (entries_of page) room entries after)
  -- the bytes of a page
  pub page-write :
      (n kind : ℕ) (list room : List ℕ) (long : ℕ) (after : List ℕ) → Page.Writes n kind list room (Ok long) after →
      Handed (page_bytes n kind list) room long after
  -- the new grown list, the list of the new space, and that space
  pub format-format :
      (n : ℕ) (p g : List ℕ) (space option : ℕ) (d grown list : List ℕ) (grown_long list_long space_after : ℕ) (grown_after list_after : List ℕ) →
      Formats n p g space option d grown list (Ok (record { grown = grown_long; list = list_long; space = space_after })) grown_after list_after →
      Handed (new_grown n p g space option d) grown grown_long grown_after
      × (Handed (new_list n p g space option d) list list_long list_after × (space_after ≡ new_space space option))
  -- the first table of the list, and it is all that a first table must be
  pub spares-first-table :
      (shape : Shape) (r : ℕ) (list room : List ℕ) (long : ℕ) (after : List ℕ) → FirstTable shape r list room (Ok long) after →
      Handed (first_table (drive_of shape r) list) room long after × IsFirstTable (drive_of shape r) list (take long after)
  -- the bytes of an image, 18 more than its data, whose header carries the word of the code and the block
  pub image-write :
      (size block code : ℕ) (bytes : List ℕ) (forced : Bool) (room : List ℕ) (long : ℕ) (after : List ℕ) →
      Image.Write size block code bytes forced room (Ok long) after →
      (long ≡ size + image_extra) × Handed (image_of (word_of code block) bytes forced) room long after

-- the promise of each call allows one result, one content of each lent room, one part and one place of it
pub record EachDetermined : Type 0 where
  -- a drive by its shape
  pub shape-sector-of : (shape : Shape) (cylinder head sector : ℕ) → OneResult (Shapes.SectorOf shape cylinder head sector)
  pub shape-address-of : (shape : Shape) (sector : ℕ) → OneResult (Shapes.AddressOf shape sector)
  -- a skipped drive
  pub skip-sector-of : (n : ℕ) (a : List ℕ) (b : ℕ) → OneResult (Skip.SectorOf n a b)
  pub skip-block-on : (n : ℕ) (a : List ℕ) (s : ℕ) → OneResult (Skip.BlockOn n a s)
  pub cursor-start : (n : ℕ) (a : List ℕ) (b : ℕ) → OneResult (Skip.Starts n a b)
  pub cursor-check : (n : ℕ) (a : List ℕ) (c : Cursor) → OneResult (Skip.Checks n a c)
  pub cursor-step : (n : ℕ) (a : List ℕ) (c : Cursor) → OneStep (Skip.Steps n a c)
  pub skipped-address-of : (shape : Shape) (a : List ℕ) (b : ℕ) → OneResult (Skipped.AddressOf shape a b)
  pub skipped-block-at : (shape : Shape) (a : List ℕ) (cylinder head sector : ℕ) → OneResult (Skipped.BlockAt shape a cylinder head sector)
  -- the list page and Format
  pub page-read : (page room : List ℕ) → OneFilled (Page.Reads page room)
  pub page-write : (n kind : ℕ) (list room : List ℕ) → OneFilled (Page.Writes n kind list room)
  pub format-format :
      (n : ℕ) (p g : List ℕ) (space option : ℕ) (d grown list : List ℕ) → OneFilledTwice (Formats n p g space option d grown list)
  -- a revectored drive
  pub spares-sector-of : (shape : Shape) (r : ℕ) (t scratch : List ℕ) (b : ℕ) → OneResult (Spares.SectorOf shape r t scratch b)
  pub spares-address-of : (shape : Shape) (r : ℕ) (t scratch : List ℕ) (b : ℕ) → OneResult (Spares.AddressOf shape r t scratch b)
  pub spares-shift : (shape : Shape) (r : ℕ) (t scratch : List ℕ) (b : ℕ) → OneResult (Spares.ShiftOf shape r t scratch b)
  pub spares-block-on : (shape : Shape) (r : ℕ) (t scratch : List ℕ) (s : ℕ) → OneResult (Spares.BlockOn shape r t scratch s)
  pub spares-block-at : (shape : Shape) (r : ℕ) (t scratch : List ℕ) (cylinder head sector : ℕ) → OneResult (Spares.BlockAt shape r t scratch cylinder head sector)
  pub spares-replace : (shape : Shape) (r : ℕ) (t scratch : List ℕ) (b : ℕ) → OneFilled (Spares.Replacement shape r t scratch b)
  pub spares-census : (shape : Shape) (r : ℕ) (t scratch : List ℕ) → OneResult (Spares.CensusOf shape r t scratch)
  pub spares-first-table : (shape : Shape) (r : ℕ) (list room : List ℕ) → OneFilled (FirstTable shape r list room)
  -- the sector image, and a read of a revectored block
  pub image-write : (size block code : ℕ) (bytes : List ℕ) (forced : Bool) (room : List ℕ) → OneFilled (Image.Write size block code bytes forced room)
  pub image-header : (size : ℕ) (image : List ℕ) → OneResult (Image.Header size image)
  pub image-judge : (size : ℕ) (image : List ℕ) (block code : ℕ) → OneResult (Image.Judge size image block code)
  pub image-data : (size : ℕ) (image : Bor (List ℕ)) (block code : ℕ) → OneLent (Image.Data size image block code)
  pub reading-tracks : (shape : Shape) (r : ℕ) (t scratch : List ℕ) (b : ℕ) → OneResult (Reading.TracksOf shape r t scratch b)
  pub reading-judge : (size : ℕ) (shape : Shape) (r : ℕ) (t scratch : List ℕ) (b : ℕ) (home spare : List ℕ) → OneResult (Reading.Judge size shape r t scratch b home spare)
  pub reading-spot : (size : ℕ) (shape : Shape) (r : ℕ) (t scratch : List ℕ) (b : ℕ) (home spare : List ℕ) → OneResult (Reading.Spots size shape r t scratch b home spare)
  pub reading-data : (size : ℕ) (shape : Shape) (r : ℕ) (t scratch : List ℕ) (b : ℕ) (home spare : Bor (List ℕ)) → OneLent (Reading.Data size shape r t scratch b home spare)
  -- the mode sector
  pub mode-find : (images : List ℕ) (apart : ℕ) → OneResult (Finds images apart)
  -- what the seven calls of `spares` that are lent a table and `reading::tracks` leave of their scratch, and what the three reads leave
  pub scratch : (shape : Shape) (r : ℕ) (before : List ℕ) → OneResult (Scratched shape r before)
  pub read-scratch : (size : ℕ) (shape : Shape) (r : ℕ) (before : List ℕ) → OneResult (Reading.ReadScratched size shape r before)
  -- what an image holds has one verdict
  pub one-verdict :
      (size : ℕ) (image : List ℕ) (block code j k : ℕ) → ContentsJudged size image block code j → ContentsJudged size image block code k → j ≡ k
  -- so of a whole image of 256 words or of 288 one of good, forced and the others holds, the one that the call says
  pub verdict-of-row :
      (size : ℕ) → Size size → (image : List ℕ) (block code k : ℕ) → length image ≡ size + image_extra → ContentsJudged size image block code k →
      (result : Result Unit Refusal) → Image.Judge size image block code result → said_verdict result ≡ k

-- an image that an accepted write left at the front of some room; its data is bytes, as the call's types say
pub record WrittenImage (size block code : ℕ) (bytes : List ℕ) (forced : Bool) (image : List ℕ) : Type 0 where
  pub are-bytes : Bytes bytes
  pub room : List ℕ
  pub long : ℕ
  pub after : List ℕ
  pub wrote : Image.Write size block code bytes forced room (Ok long) after
  pub is : image ≡ take long after

-- what one call wrote or answered, another reads again
pub record EachAgain : Type 0 where
  -- `shape::sector_of` answers sector x for cylinder, head and sector exactly where `shape::address_of` answers these for x, and their angle beside them
  pub sector-addressed :
      (shape : Shape) (cylinder head sector x : ℕ) → Shapes.SectorOf shape cylinder head sector (Ok x) →
      Shapes.AddressOf shape x (Ok (with_angle shape cylinder head sector))
  pub address-numbered :
      (shape : Shape) (address : Address) (x : ℕ) → Shapes.AddressOf shape x (Ok address) →
      Shapes.SectorOf shape address.cylinder address.head address.sector (Ok x)
  -- a page that was written reads as it was written, into any room that is long enough
  pub written-page-reads :
      (n kind : ℕ) (list room after : List ℕ) (long : ℕ) → Page.Writes n kind list room (Ok long) after →
      (other filled : List ℕ) (result : Result Paged Refusal) → length list ≤ length other → Page.Reads (take long after) other result filled →
      (result ≡ Ok (record { kind = kind; n = n; entries = length list })) × (filled ≡ written list other)
  -- what was read from a page makes that page again
  pub read-page-writes :
      (page room after : List ℕ) (kind n entries : ℕ) → Bytes page → Page.Reads page room (Ok (record { kind = kind; n = n; entries = entries })) after →
      (other filled : List ℕ) (result : Result ℕ Refusal) → length page ≤ length other → Page.Writes n kind (take entries after) other result filled →
      (result ≡ Ok (length page)) × (filled ≡ written page other)
  -- a header answers a code and a block exactly where the size is one of the two, the image has its length and a number that says them, with one of the three codes, stands in three of the four copies
  pub header-stands :
      (size : ℕ) (image : List ℕ) (code block : ℕ) → Image.Header size image (Ok (record { code = code; block = block })) →
      Size size × ((length image ≡ size + image_extra) × HeadSays image code block)
  pub standing-header :
      (size : ℕ) (image : List ℕ) (code block : ℕ) → Size size → length image ≡ size + image_extra → HeadSays image code block → Image.Header size image (Ok (record { code = code; block = block }))
  -- an image that was written says its code and its block
  pub written-names :
      (size block code : ℕ) (bytes : List ℕ) (forced : Bool) (image : List ℕ) → WrittenImage size block code bytes forced image →
      (result : Result Head Refusal) → Image.Header size image result → result ≡ Ok (record { code = code; block = block })
  -- written good, it is judged good with that pair and gives its data back in place
  pub written-good-judges :
      (size block code : ℕ) (bytes image : List ℕ) → WrittenImage size block code bytes false image →
      (result : Result Unit Refusal) → Image.Judge size image block code result → result ≡ Ok tt
  pub written-good-gives :
      (size block code : ℕ) (bytes : List ℕ) (image : Bor (List ℕ)) → WrittenImage size block code bytes false image.now →
      (part : Bor (List ℕ)) → Image.Data size image block code part → Image.Lends image header_size bytes part
  -- written forced, it is judged a forced error with that pair and gives none
  pub written-forced-judges :
      (size block code : ℕ) (bytes image : List ℕ) → WrittenImage size block code bytes true image →
      (result : Result Unit Refusal) → Image.Judge size image block code result → result ≡ Err ForcedError
  pub written-forced-gives :
      (size block code : ℕ) (bytes : List ℕ) (image : Bor (List ℕ)) → WrittenImage size block code bytes true image.now →
      (part : Bor (List ℕ)) → Image.Data size image block code part → part.now ≡ []
  -- with any other pair it is refused 16 and gives none, however it was written
  pub written-other-judges :
      (size block code : ℕ) (bytes : List ℕ) (forced : Bool) (image : List ℕ) → WrittenImage size block code bytes forced image →
      (other-block other-code : ℕ) → ((other-block ≡ block) × (other-code ≡ code) → ⊥) →
      (result : Result Unit Refusal) → Image.Judge size image other-block other-code result → result ≡ Err OtherBlock
  pub written-other-gives :
      (size block code : ℕ) (bytes : List ℕ) (forced : Bool) (image : Bor (List ℕ)) → WrittenImage size block code bytes forced image.now →
      (other-block other-code : ℕ) → ((other-block ≡ block) × (other-code ≡ code) → ⊥) →
      (part : Bor (List ℕ)) → Image.Data size image other-block other-code part → part.now ≡ []
  -- one changed bit of data, of any number of words, changes its code
  pub changed-bit-changes-code :
      (words : ℕ) (bytes : List ℕ) → Bytes bytes → length bytes ≡ 2 * words → (k bit : ℕ) → bit < 8 → k < 2 * words →
      data_code (set bytes k (bit_xor (get_or bytes k 0) (2 ^ bit))) ≡ data_code bytes → ⊥
  -- so a good image, of 256 words or of 288, of which a data byte is changed is good no more
  pub changed-data-not-good :
      (size : ℕ) (image : List ℕ) (block code k byte : ℕ) → Bytes image → k < size → byte < 256 →
      (byte ≡ get_or image (header_size + k) 0 → ⊥) →
      Image.Judge size image block code (Ok tt) → Image.Judge size (set image (header_size + k) byte) block code (Ok tt) → ⊥

-- the demand, a field for each sentence
pub record Demand1 : Type 0 where
  -- a call, whatever it is handed, answers or refuses by the paper's numbers, and a refusal says its number and nothing else
  pub by-the-numbers : EachByTheNumbers
  -- lent memory keeps its bytes where a call refuses, scratch apart
  pub lent-kept : EachKeeps
  -- what an accepted call wrote stands at the front of the lent room, and the rest of the room stays
  pub front-filled : EachHands
  -- a contract leaves no choice: for the same inputs it allows one outcome
  pub no-choice : EachDetermined
  -- what was written is read again, and data that has changed is not taken for it
  pub read_again : EachAgain
