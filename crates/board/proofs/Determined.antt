-- The contracts of the C face leave no choice: two results that one allows for equal inputs are equal, and so is what is lent.
-- Assumes nothing.
use Prim.Native.Nat.{ℕ}
use mathlib.Core.Path.{◌≡◌, sym, ap, ◌∙◌}
use mathlib.Core.Bool.{Bool}
use mathlib.Core.List.{List}
use lib.IntN.{ℤ}
use Rattle.paper.specs.Answers.{said_number}
use Rattle.paper.proofs.Kept.{fills-one}
use Rattle.shape.specs.declared.Shape.{Shape}
use Rattle.shape.specs.Promises.{SectorOf as ShapeSectorOf, AddressOf as ShapeAddressOf}
use Rattle.skip.specs.declared.Cursor.{Cursor}
use Rattle.skip.specs.Promises.{SectorOf as SkipSectorOf, BlockOn as SkipBlockOn, Starts, Checks, Steps}
use Rattle.skipped.specs.Promises.{AddressOf as SkippedAddressOf, BlockAt as SkippedBlockAt}
use Rattle.page.specs.Promises.{said_paged, Reads, Writes}
use Rattle.format.specs.Promises.{said_formatted, Formats}
use Rattle.first_table.specs.Promises.{FirstTable}
use Rattle.spares.specs.Promises.{SectorOf as SpareSectorOf, AddressOf as SpareAddressOf, ShiftOf, BlockOn as SpareBlockOn, BlockAt as SpareBlockAtOf, Replacement, CensusOf}
use Rattle.image.specs.Promises.{Write, Header, Judge as ImageVerdict}
use Rattle.mode.specs.Promises.{Finds}
use Rattle.reading.specs.Promises.{TracksOf, Judge as ReadVerdict, Spots}
use Rattle.demands.proofs.Determined.{image-header, image-judge, mode-find, reading-tracks, reading-judge, reading-spot, shape-address-of, shape-sector-of, skip-block-on, skip-cursor-check, skip-cursor-start, skip-cursor-step, skip-sector-of, skipped-address-of, skipped-block-at, spares-address-of, spares-block-at, spares-block-on, spares-census, spares-sector-of, spares-shift}
use Rattle.board.specs.declared.answers.TbCounted.{TbCounted}
use Rattle.board.specs.declared.answers.TbFormatted.{TbFormatted}
use Rattle.board.specs.declared.answers.TbHeaded.{TbHeaded}
use Rattle.board.specs.declared.answers.TbJob.{TbJob}
use Rattle.board.specs.declared.answers.TbJudged.{TbJudged}
use Rattle.board.specs.declared.answers.TbLocated.{TbLocated}
use Rattle.board.specs.declared.answers.TbNamed.{TbNamed}
use Rattle.board.specs.declared.answers.TbPaged.{TbPaged}
use Rattle.board.specs.declared.answers.TbPlaced.{TbPlaced}
use Rattle.board.specs.declared.answers.TbReplaced.{TbReplaced}
use Rattle.board.specs.declared.answers.TbShifted.{TbShifted}
use Rattle.board.specs.declared.answers.TbSized.{TbSized}
use Rattle.board.specs.declared.answers.TbSpotted.{TbSpotted}
use Rattle.board.specs.declared.answers.TbTracks.{TbTracks}
use Rattle.board.specs.declared.answers.TbWritten.{TbWritten}
use Rattle.board.specs.Promises.{formatted_fields, paged_fields, replaced_fields, written_fields, TellsCounted, TellsFormatted, TellsHeaded, TellsJob, TellsStep, TellsJudged, TellsLocated, TellsNamed, TellsPaged, TellsPlaced, TellsReplaced, TellsShifted, TellsSized, TellsSpotted, TellsTracks, TellsWritten}
use Rattle.board.proofs.Carried.{told-one}

-- each result as it is made of its fields
abbrev counted_of : ℕ × ℕ × ℕ × ℕ × ℕ × ℕ → TbCounted
counted_of n = record { refusal = n.0; free = n.1; primary = n.2; elsewhere = n.3; unusable = n.4; null = n.5 }

abbrev formatted_of : ℕ × ℕ × ℕ × ℕ → TbFormatted
formatted_of n = record { refusal = n.0; grown = n.1; list = n.2; space = n.3 }

abbrev headed_of : ℕ × ℕ × ℕ → TbHeaded
headed_of n = record { refusal = n.0; code = n.1; block = n.2 }

abbrev job_of : ℕ × ℕ × ℕ × ℕ → TbJob
job_of n = record { refusal = n.0; sector = n.1; next = record { block = n.2; skipped = n.3 } }

abbrev judged_of : ℕ → TbJudged
judged_of n = record { refusal = n }

abbrev located_of : ℕ × ℕ × ℕ × ℕ × ℕ → TbLocated
located_of n = record { refusal = n.0; address = record { cylinder = n.1; head = n.2; sector = n.3; angle = n.4 } }

abbrev named_of : ℕ × ℕ × ℕ → TbNamed
named_of n = record { refusal = n.0; found = n.1; block = n.2 }

abbrev paged_of : ℕ × ℕ × ℕ × ℕ → TbPaged
paged_of n = record { refusal = n.0; kind = n.1; n = n.2; entries = n.3 }

abbrev placed_of : ℕ × ℕ → TbPlaced
placed_of n = record { refusal = n.0; sector = n.1 }

abbrev replaced_of : ℕ × ℕ → TbReplaced
replaced_of n = record { refusal = n.0; place = n.1 }

abbrev shifted_of : ℕ × ℤ → TbShifted
shifted_of n = record { refusal = n.0; shift = n.1 }

abbrev sized_of : ℕ × ℕ → TbSized
sized_of n = record { refusal = n.0; size = n.1 }

abbrev tracks_of : ℕ × ℕ × ℕ × ℕ × ℕ × ℤ → TbTracks
tracks_of n = record { refusal = n.0; home_cylinder = n.1; home_head = n.2; cylinder = n.3; head = n.4; shift = n.5 }

abbrev spotted_of : ℕ × ℕ × ℕ → TbSpotted
spotted_of n = record { refusal = n.0; image = n.1; offset = n.2 }

abbrev written_of : ℕ × ℕ → TbWritten
written_of n = record { refusal = n.0; length = n.1 }

pub skip-sector-one : (n : ℕ) (list : List ℕ) (block : ℕ) {first second : TbPlaced} → TellsPlaced (SkipSectorOf n list block) first → TellsPlaced (SkipSectorOf n list block) second → first ≡ second
skip-sector-one n list block one other = ap placed_of (told-one (skip-sector-of n list block) one other)

pub skip-block-one : (n : ℕ) (list : List ℕ) (sector : ℕ) {first second : TbNamed} → TellsNamed (SkipBlockOn n list sector) first → TellsNamed (SkipBlockOn n list sector) second → first ≡ second
skip-block-one n list sector one other = ap named_of (told-one (skip-block-on n list sector) one other)

pub job-start-one : (n : ℕ) (list : List ℕ) (block : ℕ) {first second : TbJob} → TellsJob (Starts n list block) first → TellsJob (Starts n list block) second → first ≡ second
job-start-one n list block one other = ap job_of (told-one (skip-cursor-start n list block) one other)

pub job-check-one : (n : ℕ) (list : List ℕ) (cursor : Cursor) {first second : TbJob} → TellsJob (Checks n list cursor) first → TellsJob (Checks n list cursor) second → first ≡ second
job-check-one n list cursor one other = ap job_of (told-one (skip-cursor-check n list cursor) one other)

pub job-step-one : (n : ℕ) (list : List ℕ) (cursor : Cursor) {first second : TbJob} → TellsStep (Steps n list cursor) first → TellsStep (Steps n list cursor) second → first ≡ second
job-step-one n list cursor one other = ap job_of (told-one (skip-cursor-step n list cursor) one other)

pub shape-sector-one : (shape : Shape) (cylinder head sector : ℕ) {first second : TbPlaced} → TellsPlaced (ShapeSectorOf shape cylinder head sector) first → TellsPlaced (ShapeSectorOf shape cylinder head sector) second → first ≡ second
shape-sector-one shape cylinder head sector one other = ap placed_of (told-one (shape-sector-of shape cylinder head sector) one other)

pub shape-address-one : (shape : Shape) (sector : ℕ) {first second : TbLocated} → TellsLocated (ShapeAddressOf shape sector) first → TellsLocated (ShapeAddressOf shape sector) second → first ≡ second
shape-address-one shape sector one other = ap located_of (told-one (shape-address-of shape sector) one other)

pub skipped-address-one : (shape : Shape) (list : List ℕ) (block : ℕ) {first second : TbLocated} → TellsLocated (SkippedAddressOf shape list block) first → TellsLocated (SkippedAddressOf shape list block) second → first ≡ second
skipped-address-one shape list block one other = ap located_of (told-one (skipped-address-of shape list block) one other)

pub skipped-block-one : (shape : Shape) (list : List ℕ) (cylinder head sector : ℕ) {first second : TbNamed} → TellsNamed (SkippedBlockAt shape list cylinder head sector) first → TellsNamed (SkippedBlockAt shape list cylinder head sector) second → first ≡ second
skipped-block-one shape list cylinder head sector one other = ap named_of (told-one (skipped-block-at shape list cylinder head sector) one other)

pub page-read-one :
    (page room : List ℕ) {after other_after : List ℕ} {first second : TbPaged} → TellsPaged (λ answer. Reads page room answer after) first → TellsPaged (λ answer. Reads page room answer other_after) second →
    (first ≡ second) × (after ≡ other_after)
page-read-one page room {first} {second} one other =
    let same = fills-one one.promised other.promised in
    let fields : paged_fields first ≡ paged_fields second = one.are-said ∙ (ap said_paged same.0 ∙ sym other.are-said) in
    (ap paged_of fields, same.1)

pub page-write-one :
    (n kind : ℕ) (list room : List ℕ) {after other_after : List ℕ} {first second : TbWritten} → TellsWritten (λ answer. Writes n kind list room answer after) first → TellsWritten (λ answer. Writes n kind list room answer other_after) second →
    (first ≡ second) × (after ≡ other_after)
page-write-one n kind list room {first} {second} one other =
    let same = fills-one one.promised other.promised in
    let fields : written_fields first ≡ written_fields second = one.are-said ∙ (ap said_number same.0 ∙ sym other.are-said) in
    (ap written_of fields, same.1)

pub format-one :
    (n : ℕ) (p g : List ℕ) (space option : ℕ) (d grown list : List ℕ) {grown_after list_after grown_other list_other : List ℕ} {first second : TbFormatted} → TellsFormatted (λ answer. Formats n p g space option d grown list answer grown_after list_after) first → TellsFormatted (λ answer. Formats n p g space option d grown list answer grown_other list_other) second →
    (first ≡ second) × (◌≡◌ {A = List ℕ × List ℕ} (grown_after, list_after) (grown_other, list_other))
format-one n p g space option d grown list {first} {second} one other =
    let same = fills-one one.promised other.promised in
    let fields : formatted_fields first ≡ formatted_fields second = one.are-said ∙ (ap said_formatted same.0 ∙ sym other.are-said) in
    (ap formatted_of fields, same.1)

pub spare-sector-one : (shape : Shape) (r : ℕ) (table scratch : List ℕ) (block : ℕ) {first second : TbPlaced} → TellsPlaced (SpareSectorOf shape r table scratch block) first → TellsPlaced (SpareSectorOf shape r table scratch block) second → first ≡ second
spare-sector-one shape r table scratch block one other = ap placed_of (told-one (spares-sector-of shape r table scratch block) one other)

pub spare-address-one : (shape : Shape) (r : ℕ) (table scratch : List ℕ) (block : ℕ) {first second : TbLocated} → TellsLocated (SpareAddressOf shape r table scratch block) first → TellsLocated (SpareAddressOf shape r table scratch block) second → first ≡ second
spare-address-one shape r table scratch block one other = ap located_of (told-one (spares-address-of shape r table scratch block) one other)

pub spare-shift-one : (shape : Shape) (r : ℕ) (table scratch : List ℕ) (block : ℕ) {first second : TbShifted} → TellsShifted (ShiftOf shape r table scratch block) first → TellsShifted (ShiftOf shape r table scratch block) second → first ≡ second
spare-shift-one shape r table scratch block one other = ap shifted_of (told-one (spares-shift shape r table scratch block) one other)

pub spare-block-one : (shape : Shape) (r : ℕ) (table scratch : List ℕ) (sector : ℕ) {first second : TbNamed} → TellsNamed (SpareBlockOn shape r table scratch sector) first → TellsNamed (SpareBlockOn shape r table scratch sector) second → first ≡ second
spare-block-one shape r table scratch sector one other = ap named_of (told-one (spares-block-on shape r table scratch sector) one other)

pub spare-block-at-one : (shape : Shape) (r : ℕ) (table scratch : List ℕ) (cylinder head sector : ℕ) {first second : TbNamed} → TellsNamed (SpareBlockAtOf shape r table scratch cylinder head sector) first → TellsNamed (SpareBlockAtOf shape r table scratch cylinder head sector) second → first ≡ second
spare-block-at-one shape r table scratch cylinder head sector one other = ap named_of (told-one (spares-block-at shape r table scratch cylinder head sector) one other)

pub spare-replace-one :
    (shape : Shape) (r : ℕ) (table scratch : List ℕ) (block : ℕ) {after other_after : List ℕ} {first second : TbReplaced} → TellsReplaced (λ answer. Replacement shape r table scratch block answer after) first → TellsReplaced (λ answer. Replacement shape r table scratch block answer other_after) second →
    (first ≡ second) × (after ≡ other_after)
spare-replace-one shape r table scratch block {first} {second} one other =
    let same = fills-one one.promised other.promised in
    let fields : replaced_fields first ≡ replaced_fields second = one.are-said ∙ (ap said_number same.0 ∙ sym other.are-said) in
    (ap replaced_of fields, same.1)

pub spare-census-one : (shape : Shape) (r : ℕ) (table scratch : List ℕ) {first second : TbCounted} → TellsCounted (CensusOf shape r table scratch) first → TellsCounted (CensusOf shape r table scratch) second → first ≡ second
spare-census-one shape r table scratch one other = ap counted_of (told-one (spares-census shape r table scratch) one other)

pub spare-first-one :
    (shape : Shape) (r : ℕ) (list room : List ℕ) {after other_after : List ℕ} {first second : TbWritten} → TellsWritten (λ answer. FirstTable shape r list room answer after) first → TellsWritten (λ answer. FirstTable shape r list room answer other_after) second →
    (first ≡ second) × (after ≡ other_after)
spare-first-one shape r list room {first} {second} one other =
    let same = fills-one one.promised other.promised in
    let fields : written_fields first ≡ written_fields second = one.are-said ∙ (ap said_number same.0 ∙ sym other.are-said) in
    (ap written_of fields, same.1)

pub image-write-one :
    (size block code : ℕ) (bytes : List ℕ) (forced : Bool) (room : List ℕ) {after other_after : List ℕ} {first second : TbWritten} → TellsWritten (λ answer. Write size block code bytes forced room answer after) first → TellsWritten (λ answer. Write size block code bytes forced room answer other_after) second →
    (first ≡ second) × (after ≡ other_after)
image-write-one size block code bytes forced room {first} {second} one other =
    let same = fills-one one.promised other.promised in
    let fields : written_fields first ≡ written_fields second = one.are-said ∙ (ap said_number same.0 ∙ sym other.are-said) in
    (ap written_of fields, same.1)

pub image-header-one : (size : ℕ) (image : List ℕ) {first second : TbHeaded} → TellsHeaded (Header size image) first → TellsHeaded (Header size image) second → first ≡ second
image-header-one size image one other = ap headed_of (told-one (image-header size image) one other)

pub image-judge-one : (size : ℕ) (image : List ℕ) (block code : ℕ) {first second : TbJudged} → TellsJudged (ImageVerdict size image block code) first → TellsJudged (ImageVerdict size image block code) second → first ≡ second
image-judge-one size image block code one other = ap judged_of (told-one (image-judge size image block code) one other)

pub mode-one : (images : List ℕ) (apart : ℕ) {first second : TbSized} → TellsSized (Finds images apart) first → TellsSized (Finds images apart) second → first ≡ second
mode-one images apart one other = ap sized_of (told-one (mode-find images apart) one other)

pub read-tracks-one : (shape : Shape) (r : ℕ) (table scratch : List ℕ) (block : ℕ) {first second : TbTracks} → TellsTracks (TracksOf shape r table scratch block) first → TellsTracks (TracksOf shape r table scratch block) second → first ≡ second
read-tracks-one shape r table scratch block one other = ap tracks_of (told-one (reading-tracks shape r table scratch block) one other)

pub read-judge-one : (size : ℕ) (shape : Shape) (r : ℕ) (table scratch : List ℕ) (block : ℕ) (home spare : List ℕ) {first second : TbJudged} → TellsJudged (ReadVerdict size shape r table scratch block home spare) first → TellsJudged (ReadVerdict size shape r table scratch block home spare) second → first ≡ second
read-judge-one size shape r table scratch block home spare one other = ap judged_of (told-one (reading-judge size shape r table scratch block home spare) one other)

pub read-data-one : (size : ℕ) (shape : Shape) (r : ℕ) (table scratch : List ℕ) (block : ℕ) (home spare : List ℕ) {first second : TbSpotted} → TellsSpotted (Spots size shape r table scratch block home spare) first → TellsSpotted (Spots size shape r table scratch block home spare) second → first ≡ second
read-data-one size shape r table scratch block home spare one other = ap spotted_of (told-one (reading-spot size shape r table scratch block home spare) one other)
