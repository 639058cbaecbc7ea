-- The paper's limits and sizes, "Numbers", "List page" and "Sector image", and document 02, Q-10; the range of N, and the two sizes of a sector's data.
use Rattle.std.specs.Prelude.{ℕ, ◌+◌, ◌*◌, ◌≤◌, ◌≡◌, Bool, not, ◌&&◌, ◌||◌, ◌⊎◌, eqb, leb}
use Rattle.paper.specs.Refusals.{out_of_range}
use Rattle.paper.specs.Checks.{refuse}
use Rattle.paper.specs.Exactly.{When}

-- sectors of a drive, or units of any other space
abbrev pub units_most : ℕ
units_most = 16777216

abbrev pub cylinders_most : ℕ
cylinders_most = 4096

abbrev pub heads_most : ℕ
heads_most = 64

-- sectors of a track
abbrev pub sectors_least : ℕ
sectors_least = 2

abbrev pub sectors_most : ℕ
sectors_most = 64

-- entries of a list
abbrev pub list_most : ℕ
list_most = 65536

-- spares of a revectored drive
abbrev pub spares_most : ℕ
spares_most = 65536

-- descriptors of a table block
abbrev pub table_block : ℕ
table_block = 128

-- data bytes of a sector
abbrev pub data_size : ℕ
data_size = 512

-- and of a sector of a wide drive
abbrev pub wide_size : ℕ
wide_size = 576

-- header of a sector image in bytes, and so where the data begins
abbrev pub header_size : ℕ
header_size = 16

-- header and code of a sector image, in bytes
abbrev pub image_extra : ℕ
image_extra = 18

-- bytes of a page that are no entries
abbrev pub page_frame : ℕ
page_frame = 14

-- bytes of an entry in a page
abbrev pub entry_size : ℕ
entry_size = 4

-- bytes of the longest page
abbrev pub page_most : ℕ
page_most = page_frame + entry_size * list_most

-- the highest option and the highest space of Format
abbrev pub option_most : ℕ
option_most = 7

abbrev pub space_most : ℕ
space_most = 3

-- the highest kind of a page
abbrev pub kind_most : ℕ
kind_most = 1

-- bytes that the listing program takes
abbrev pub listing_most : ℕ
listing_most = 16398

-- the code before any word of the data
abbrev pub start_code : ℕ
start_code = 0x5a3c

-- a number lies in a range, both ends included
abbrev pub Within : ℕ → ℕ → ℕ → Type 0
Within least most number = (least ≤ number) × (number ≤ most)

abbrev pub within : ℕ → ℕ → ℕ → Bool
within least most number = leb least number && leb number most

-- N is 1 to the most units, else refusal 1; the size of a sector's data is judged below
abbrev pub size_fault : ℕ → ℕ
size_fault n = refuse (not (within 1 units_most n)) out_of_range

-- exactly when 1 is given for an N
abbrev pub SizeJudged : ℕ → ℕ → Type 0
SizeJudged n = When out_of_range (Within 1 units_most n → ⊥)

-- the two sizes of a sector's data
abbrev pub Size : ℕ → Type 0
Size size = (size ≡ data_size) ⊎ (size ≡ wide_size)

-- whether a number is one of them
abbrev pub is_size : ℕ → Bool
is_size size = eqb size data_size || eqb size wide_size

-- the size is one of the two, else refusal 1
unfoldable pub data_size_fault : ℕ → ℕ
data_size_fault size = refuse (not (is_size size)) out_of_range

-- exactly when 1 is given for a size
abbrev pub DataSizeJudged : ℕ → ℕ → Type 0
DataSizeJudged size = When out_of_range (Size size → ⊥)
