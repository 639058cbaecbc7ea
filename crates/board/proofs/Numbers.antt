-- Each call of the C face by the numbers: its refusal is the number that the paper's table gives, exactly then; refused, every other number is 0, but that a step hands back its cursor; and what was lent keeps its bytes.
-- Assumes nothing.
use Prim.Native.Nat.{ℕ}
use mathlib.Core.Bool.{Bool}
use mathlib.Core.List.{List}
use lib.IntN.{pos}
use Rattle.paper.specs.Exactly.{◌and_then◌}
use Rattle.paper.specs.Limits.{DataSizeJudged}
use Rattle.shape.specs.declared.Shape.{Shape}
use Rattle.shape.specs.Promises.{SectorOf as ShapeSectorOf, AddressOf as ShapeAddressOf}
use Rattle.skip.specs.declared.Cursor.{Cursor}
use Rattle.skip.specs.Promises.{SectorOf as SkipSectorOf, BlockOn as SkipBlockOn, Starts, Checks, Steps}
use Rattle.skipped.specs.Promises.{AddressOf as SkippedAddressOf, BlockAt as SkippedBlockAt}
use Rattle.page.specs.Promises.{Reads, Writes}
use Rattle.format.specs.Promises.{Formats}
use Rattle.first_table.specs.Promises.{FirstTable}
use Rattle.spares.specs.Promises.{SectorOf as SpareSectorOf, AddressOf as SpareAddressOf, ShiftOf, BlockOn as SpareBlockOn, BlockAt as SpareBlockAtOf, Replacement, CensusOf}
use Rattle.image.specs.Promises.{Write, Header, Judge as ImageVerdict}
use Rattle.mode.specs.Promises.{Finds}
use Rattle.reading.specs.Promises.{TracksOf, Judge as ReadVerdict, Spots}
use Rattle.shape.specs.Addresses.{SectorOfJudged as ShapeSectorOfJudged, AddressOfJudged as ShapeAddressOfJudged}
use Rattle.skip.specs.Translation.{SectorOfJudged as SkipSectorOfJudged, BlockOnJudged as SkipBlockOnJudged}
use Rattle.skip.specs.Cursors.{CheckJudged, StepJudged}
use Rattle.skipped.specs.Faults.{AddressOfJudged as SkippedAddressOfJudged, BlockAtJudged as SkippedBlockAtJudged}
use Rattle.page.specs.Pages.{ReadJudged as PageReadJudged, WriteJudged as PageWriteJudged}
use Rattle.format.specs.Spaces.{FormatJudged}
use Rattle.table.specs.Rules.{TableJudged, BlockJudged}
use Rattle.first_table.specs.Tables.{FirstTableJudged}
use Rattle.spares.specs.Spares.{BlockOnJudged as SpareBlockOnJudged, BlockAtJudged as SpareBlockAtJudged, ReplaceJudged}
use Rattle.image.specs.Judged.{HeaderJudged, ImageJudged, WriteJudged as ImageWriteJudged}
use Rattle.mode.specs.Modes.{ModeJudged}
use Rattle.reading.specs.Judged.{BlockReadJudged}
use Rattle.demands.specs.Relations.{Keeps}
use Rattle.demands.proofs.Demand1.{skip-sector-of, skip-block-on, cursor-start, cursor-check, cursor-step, shape-sector-of, shape-address-of, skipped-address-of, skipped-block-at, page-read, page-write, format-format, spares-sector-of, spares-address-of, spares-shift, spares-block-on, spares-block-at, spares-replace, spares-census, spares-first-table, image-write, image-header, image-judge, mode-find, reading-tracks, reading-judge, reading-spot, page-read-keeps, page-write-keeps, format-keeps, spares-replace-keeps, spares-first-table-keeps, image-write-keeps}
use Rattle.board.specs.declared.answers.TbCounted.{TbCounted}
use Rattle.board.specs.declared.answers.TbFormatted.{TbFormatted}
use Rattle.board.specs.declared.answers.TbHeaded.{TbHeaded}
use Rattle.board.specs.declared.answers.TbJob.{TbJob}
use Rattle.board.specs.declared.answers.TbJudged.{TbJudged}
use Rattle.board.specs.declared.answers.TbLocated.{TbLocated}
use Rattle.board.specs.declared.answers.TbNamed.{TbNamed}
use Rattle.board.specs.declared.answers.TbPaged.{TbPaged}
use Rattle.board.specs.declared.answers.TbPlaced.{TbPlaced}
use Rattle.board.specs.declared.answers.TbReplaced.{TbReplaced}
use Rattle.board.specs.declared.answers.TbShifted.{TbShifted}
use Rattle.board.specs.declared.answers.TbSized.{TbSized}
use Rattle.board.specs.declared.answers.TbSpotted.{TbSpotted}
use Rattle.board.specs.declared.answers.TbTracks.{TbTracks}
use Rattle.board.specs.declared.answers.TbWritten.{TbWritten}
use Rattle.board.specs.Promises.{NumbersBy, counted_fields, formatted_fields, headed_fields, job_fields, judged_fields, located_fields, named_fields, paged_fields, placed_fields, replaced_fields, shifted_fields, sized_fields, spotted_fields, tracks_fields, written_fields, TellsCounted, TellsFormatted, TellsHeaded, TellsJob, TellsStep, TellsJudged, TellsLocated, TellsNamed, TellsPaged, TellsPlaced, TellsReplaced, TellsShifted, TellsSized, TellsSpotted, TellsTracks, TellsWritten}
use Rattle.board.proofs.Carried.{told-numbers, told-keeps}

pub skip-sector-numbers : (n : ℕ) (list : List ℕ) (block : ℕ) {result : TbPlaced} → TellsPlaced (SkipSectorOf n list block) result → NumbersBy (λ fields. fields.0) (λ k. (k, 0)) (SkipSectorOfJudged n list block) (placed_fields result)
skip-sector-numbers n list block = told-numbers (skip-sector-of n list block)

pub skip-block-numbers : (n : ℕ) (list : List ℕ) (sector : ℕ) {result : TbNamed} → TellsNamed (SkipBlockOn n list sector) result → NumbersBy (λ fields. fields.0) (λ k. (k, 0, 0)) (SkipBlockOnJudged n list sector) (named_fields result)
skip-block-numbers n list sector = told-numbers (skip-block-on n list sector)

pub job-start-numbers : (n : ℕ) (list : List ℕ) (block : ℕ) {result : TbJob} → TellsJob (Starts n list block) result → NumbersBy (λ fields. fields.0) (λ k. (k, 0, 0, 0)) (SkipSectorOfJudged n list block) (job_fields result)
job-start-numbers n list block = told-numbers (cursor-start n list block)

pub job-check-numbers : (n : ℕ) (list : List ℕ) (cursor : Cursor) {result : TbJob} → TellsJob (Checks n list cursor) result → NumbersBy (λ fields. fields.0) (λ k. (k, 0, 0, 0)) (CheckJudged n list cursor) (job_fields result)
job-check-numbers n list cursor = told-numbers (cursor-check n list cursor)

pub job-step-numbers : (n : ℕ) (list : List ℕ) (cursor : Cursor) {result : TbJob} → TellsStep (Steps n list cursor) result → NumbersBy (λ fields. fields.0) (λ k. (k, 0, cursor.block, cursor.skipped)) (StepJudged n list cursor) (job_fields result)
job-step-numbers n list cursor = told-numbers (λ outcome promise. cursor-step n list cursor outcome.0 outcome.1 promise)

pub shape-sector-numbers : (shape : Shape) (cylinder head sector : ℕ) {result : TbPlaced} → TellsPlaced (ShapeSectorOf shape cylinder head sector) result → NumbersBy (λ fields. fields.0) (λ k. (k, 0)) (ShapeSectorOfJudged shape cylinder head sector) (placed_fields result)
shape-sector-numbers shape cylinder head sector = told-numbers (shape-sector-of shape cylinder head sector)

pub shape-address-numbers : (shape : Shape) (sector : ℕ) {result : TbLocated} → TellsLocated (ShapeAddressOf shape sector) result → NumbersBy (λ fields. fields.0) (λ k. (k, 0, 0, 0, 0)) (ShapeAddressOfJudged shape sector) (located_fields result)
shape-address-numbers shape sector = told-numbers (shape-address-of shape sector)

pub skipped-address-numbers : (shape : Shape) (list : List ℕ) (block : ℕ) {result : TbLocated} → TellsLocated (SkippedAddressOf shape list block) result → NumbersBy (λ fields. fields.0) (λ k. (k, 0, 0, 0, 0)) (SkippedAddressOfJudged shape list block) (located_fields result)
skipped-address-numbers shape list block = told-numbers (skipped-address-of shape list block)

pub skipped-block-numbers : (shape : Shape) (list : List ℕ) (cylinder head sector : ℕ) {result : TbNamed} → TellsNamed (SkippedBlockAt shape list cylinder head sector) result → NumbersBy (λ fields. fields.0) (λ k. (k, 0, 0)) (SkippedBlockAtJudged shape list cylinder head sector) (named_fields result)
skipped-block-numbers shape list cylinder head sector = told-numbers (skipped-block-at shape list cylinder head sector)

pub page-read-numbers : (page room : List ℕ) (after : List ℕ) {result : TbPaged} → TellsPaged (λ answer. Reads page room answer after) result → NumbersBy (λ fields. fields.0) (λ k. (k, 0, 0, 0)) (PageReadJudged page room) (paged_fields result)
page-read-numbers page room after = told-numbers (λ given promise. page-read page room given after promise)

pub page-read-kept : (page room : List ℕ) (after : List ℕ) {result : TbPaged} → TellsPaged (λ answer. Reads page room answer after) result → Keeps (paged_fields result).0 room after
page-read-kept page room after = told-keeps (λ fields. fields.0) (λ given promise. page-read-keeps page room given after promise)

pub page-write-numbers : (n kind : ℕ) (list room : List ℕ) (after : List ℕ) {result : TbWritten} → TellsWritten (λ answer. Writes n kind list room answer after) result → NumbersBy (λ fields. fields.0) (λ k. (k, 0)) (PageWriteJudged n kind list room) (written_fields result)
page-write-numbers n kind list room after = told-numbers (λ given promise. page-write n kind list room given after promise)

pub page-write-kept : (n kind : ℕ) (list room : List ℕ) (after : List ℕ) {result : TbWritten} → TellsWritten (λ answer. Writes n kind list room answer after) result → Keeps (written_fields result).0 room after
page-write-kept n kind list room after = told-keeps (λ fields. fields.0) (λ given promise. page-write-keeps n kind list room given after promise)

pub format-numbers : (n : ℕ) (p g : List ℕ) (space option : ℕ) (d grown list grown_after list_after : List ℕ) {result : TbFormatted} → TellsFormatted (λ answer. Formats n p g space option d grown list answer grown_after list_after) result → NumbersBy (λ fields. fields.0) (λ k. (k, 0, 0, 0)) (FormatJudged n p g space option d grown list) (formatted_fields result)
format-numbers n p g space option d grown list grown_after list_after = told-numbers (λ given promise. format-format n p g space option d grown list given grown_after list_after promise)

pub format-kept : (n : ℕ) (p g : List ℕ) (space option : ℕ) (d grown list grown_after list_after : List ℕ) {result : TbFormatted} → TellsFormatted (λ answer. Formats n p g space option d grown list answer grown_after list_after) result → Keeps {Lent = List ℕ × List ℕ} (formatted_fields result).0 (grown, list) (grown_after, list_after)
format-kept n p g space option d grown list grown_after list_after = told-keeps (λ fields. fields.0) (λ given promise. format-keeps n p g space option d grown list given grown_after list_after promise)

pub spare-sector-numbers : (shape : Shape) (r : ℕ) (table scratch : List ℕ) (block : ℕ) {result : TbPlaced} → TellsPlaced (SpareSectorOf shape r table scratch block) result → NumbersBy (λ fields. fields.0) (λ k. (k, 0)) (BlockJudged shape r table scratch block) (placed_fields result)
spare-sector-numbers shape r table scratch block = told-numbers (spares-sector-of shape r table scratch block)

pub spare-address-numbers : (shape : Shape) (r : ℕ) (table scratch : List ℕ) (block : ℕ) {result : TbLocated} → TellsLocated (SpareAddressOf shape r table scratch block) result → NumbersBy (λ fields. fields.0) (λ k. (k, 0, 0, 0, 0)) (BlockJudged shape r table scratch block) (located_fields result)
spare-address-numbers shape r table scratch block = told-numbers (spares-address-of shape r table scratch block)

pub spare-shift-numbers : (shape : Shape) (r : ℕ) (table scratch : List ℕ) (block : ℕ) {result : TbShifted} → TellsShifted (ShiftOf shape r table scratch block) result → NumbersBy (λ fields. fields.0) (λ k. (k, pos 0)) (BlockJudged shape r table scratch block) (shifted_fields result)
spare-shift-numbers shape r table scratch block = told-numbers (spares-shift shape r table scratch block)

pub spare-block-numbers : (shape : Shape) (r : ℕ) (table scratch : List ℕ) (sector : ℕ) {result : TbNamed} → TellsNamed (SpareBlockOn shape r table scratch sector) result → NumbersBy (λ fields. fields.0) (λ k. (k, 0, 0)) (SpareBlockOnJudged shape r table scratch sector) (named_fields result)
spare-block-numbers shape r table scratch sector = told-numbers (spares-block-on shape r table scratch sector)

pub spare-block-at-numbers : (shape : Shape) (r : ℕ) (table scratch : List ℕ) (cylinder head sector : ℕ) {result : TbNamed} → TellsNamed (SpareBlockAtOf shape r table scratch cylinder head sector) result → NumbersBy (λ fields. fields.0) (λ k. (k, 0, 0)) (SpareBlockAtJudged shape r table scratch cylinder head sector) (named_fields result)
spare-block-at-numbers shape r table scratch cylinder head sector = told-numbers (spares-block-at shape r table scratch cylinder head sector)

pub spare-replace-numbers : (shape : Shape) (r : ℕ) (table scratch : List ℕ) (block : ℕ) (after : List ℕ) {result : TbReplaced} → TellsReplaced (λ answer. Replacement shape r table scratch block answer after) result → NumbersBy (λ fields. fields.0) (λ k. (k, 0)) (ReplaceJudged shape r table scratch block) (replaced_fields result)
spare-replace-numbers shape r table scratch block after = told-numbers (λ given promise. spares-replace shape r table scratch block given after promise)

pub spare-replace-kept : (shape : Shape) (r : ℕ) (table scratch : List ℕ) (block : ℕ) (after : List ℕ) {result : TbReplaced} → TellsReplaced (λ answer. Replacement shape r table scratch block answer after) result → Keeps (replaced_fields result).0 table after
spare-replace-kept shape r table scratch block after = told-keeps (λ fields. fields.0) (λ given promise. spares-replace-keeps shape r table scratch block given after promise)

pub spare-census-numbers : (shape : Shape) (r : ℕ) (table scratch : List ℕ) {result : TbCounted} → TellsCounted (CensusOf shape r table scratch) result → NumbersBy (λ fields. fields.0) (λ k. (k, 0, 0, 0, 0, 0)) (TableJudged shape r table scratch) (counted_fields result)
spare-census-numbers shape r table scratch = told-numbers (spares-census shape r table scratch)

pub spare-first-numbers : (shape : Shape) (r : ℕ) (list room : List ℕ) (after : List ℕ) {result : TbWritten} → TellsWritten (λ answer. FirstTable shape r list room answer after) result → NumbersBy (λ fields. fields.0) (λ k. (k, 0)) (FirstTableJudged shape r list room) (written_fields result)
spare-first-numbers shape r list room after = told-numbers (λ given promise. spares-first-table shape r list room given after promise)

pub spare-first-kept : (shape : Shape) (r : ℕ) (list room : List ℕ) (after : List ℕ) {result : TbWritten} → TellsWritten (λ answer. FirstTable shape r list room answer after) result → Keeps (written_fields result).0 room after
spare-first-kept shape r list room after = told-keeps (λ fields. fields.0) (λ given promise. spares-first-table-keeps shape r list room given after promise)

pub image-write-numbers : (size block code : ℕ) (bytes : List ℕ) (forced : Bool) (room : List ℕ) (after : List ℕ) {result : TbWritten} → TellsWritten (λ answer. Write size block code bytes forced room answer after) result → NumbersBy (λ fields. fields.0) (λ k. (k, 0)) (DataSizeJudged size and_then ImageWriteJudged size block code bytes room) (written_fields result)
image-write-numbers size block code bytes forced room after = told-numbers (λ given promise. image-write size block code bytes forced room given after promise)

pub image-write-kept : (size block code : ℕ) (bytes : List ℕ) (forced : Bool) (room : List ℕ) (after : List ℕ) {result : TbWritten} → TellsWritten (λ answer. Write size block code bytes forced room answer after) result → Keeps (written_fields result).0 room after
image-write-kept size block code bytes forced room after = told-keeps (λ fields. fields.0) (λ given promise. image-write-keeps size block code bytes forced room given after promise)

pub image-header-numbers : (size : ℕ) (image : List ℕ) {result : TbHeaded} → TellsHeaded (Header size image) result → NumbersBy (λ fields. fields.0) (λ k. (k, 0, 0)) (DataSizeJudged size and_then HeaderJudged size image) (headed_fields result)
image-header-numbers size image = told-numbers (image-header size image)

pub image-judge-numbers : (size : ℕ) (image : List ℕ) (block code : ℕ) {result : TbJudged} → TellsJudged (ImageVerdict size image block code) result → NumbersBy (λ fields. fields) (λ k. k) (DataSizeJudged size and_then ImageJudged size image block code) (judged_fields result)
image-judge-numbers size image block code = told-numbers (image-judge size image block code)

pub mode-numbers : (images : List ℕ) (apart : ℕ) {result : TbSized} → TellsSized (Finds images apart) result → NumbersBy (λ fields. fields.0) (λ k. (k, 0)) (ModeJudged images apart) (sized_fields result)
mode-numbers images apart = told-numbers (mode-find images apart)

pub read-tracks-numbers : (shape : Shape) (r : ℕ) (table scratch : List ℕ) (block : ℕ) {result : TbTracks} → TellsTracks (TracksOf shape r table scratch block) result → NumbersBy (λ fields. fields.0) (λ k. (k, 0, 0, 0, 0, pos 0)) (BlockJudged shape r table scratch block) (tracks_fields result)
read-tracks-numbers shape r table scratch block = told-numbers (reading-tracks shape r table scratch block)

pub read-judge-numbers : (size : ℕ) (shape : Shape) (r : ℕ) (table scratch : List ℕ) (block : ℕ) (home spare : List ℕ) {result : TbJudged} → TellsJudged (ReadVerdict size shape r table scratch block home spare) result → NumbersBy (λ fields. fields) (λ k. k) (DataSizeJudged size and_then BlockReadJudged size shape r table scratch block home spare) (judged_fields result)
read-judge-numbers size shape r table scratch block home spare = told-numbers (reading-judge size shape r table scratch block home spare)

pub read-data-numbers : (size : ℕ) (shape : Shape) (r : ℕ) (table scratch : List ℕ) (block : ℕ) (home spare : List ℕ) {result : TbSpotted} → TellsSpotted (Spots size shape r table scratch block home spare) result → NumbersBy (λ fields. fields.0) (λ k. (k, 0, 0)) (DataSizeJudged size and_then BlockReadJudged size shape r table scratch block home spare) (spotted_fields result)
read-data-numbers size shape r table scratch block home spare = told-numbers (reading-spot size shape r table scratch block home spare)
