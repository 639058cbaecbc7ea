-- Document 01, "Numbers to try": those that are marked P, and some of ours beside them; document 02, Q-9: angles, Q-3: spares that die, Q-6: scratch, Q-7: holes, Q-4: headers, and Q-10: sizes and the mode sector; all as the rows of one table, and what it is for a row to hold.
use Rattle.std.specs.Prelude.{ℕ, zero, suc, ◌+◌, ◌-◌, ◌*◌, ◌%◌, ◌<◌, ◌≤◌, ◌≡◌, Bool, true, false, List, [], ◌∷◌, ◌++◌, ℤ, pos, negsuc, length, take, replicate, set, Result}
use Rattle.paper.specs.Answers.{said_number, said_named, said_verdict}
use Rattle.paper.specs.Limits.{header_size, image_extra}
use Rattle.paper.specs.Promise.{written}
use Rattle.paper.specs.declared.Refusal.{Refusal}
use Rattle.shape.specs.declared.Shape.{Shape}
use Rattle.shape.specs.Promises as Shapes
use Rattle.skip.specs.Promises as Skip
use Rattle.format.specs.declared.Formatted.{Formatted}
use Rattle.format.specs.Promises.{said_formatted, Formats}
use Rattle.layout.specs.Layouts.{drive_of}
use Rattle.table.specs.Scratch.{Enough}
use Rattle.first_table.specs.Promises.{FirstTable}
use Rattle.spares.specs.Promises as Spares
use Rattle.words.specs.Coded.{code_unit}
use Rattle.words.specs.Words.{bytes16, Bytes, bytes_of}
use Rattle.image.specs.Header.{Known}
use Rattle.image.specs.Image.{copies, stored_in, image_of}
use Rattle.image.specs.Promises.{Write, Header, Judge, said_head}
use Rattle.mode.specs.Promises.{Finds}
use Rattle.reading.specs.Promises as Reading
use Rattle.demands.specs.Relations.{AllowsOnly}
use Rattle.demands.specs.Headers.{Holding}
use Rattle.demands.specs.Inputs.{few, chart, small, eight, none_replaced, after_seven, after_eight, after_six, seven_on_five, eight_on_three, seven_on_six, six_on_two, seven_on_seven, zero_on_zero, seven_on_one, seven_past_four, four_heads, two_groups, largest, tall, tall_with, holding}

-- a row: a call, what goes into it, and the paper's figures for what comes out; the refusal comes first, 0 where the call accepts
pub data Row : Type 0 where
  -- skip::sector_of: refusal, sector
  skip-sector : (n : ℕ) (list : List ℕ) (block : ℕ) (figures : ℕ × ℕ) → Row
  -- skip::block_on: refusal, whether a block lies there, block
  skip_block : (n : ℕ) (list : List ℕ) (sector : ℕ) (figures : ℕ × ℕ × ℕ) → Row
  -- shape::address_of: refusal, cylinder, head, sector, angle
  shape-address : (shape : Shape) (sector : ℕ) (figures : ℕ × ℕ × ℕ × ℕ × ℕ) → Row
  -- format::format, accepted: the new grown list, the new list, the new space
  format : (n : ℕ) (p g : List ℕ) (space option : ℕ) (d grown list : List ℕ) (next : ℕ) → Row
  -- spares::first_table, accepted: the table
  spare-first : (shape : Shape) (r : ℕ) (list table : List ℕ) → Row
  -- spares::replace, accepted: the place, and the table after it
  spare-replace : (shape : Shape) (r : ℕ) (table : List ℕ) (block place : ℕ) (after : List ℕ) → Row
  -- spares::replace, of whatever block: refused 13, and the table as it was
  spare-full : (shape : Shape) (r : ℕ) (table : List ℕ) → Row
  -- spares::shift: refusal, shift
  spare-shift : (shape : Shape) (r : ℕ) (table : List ℕ) (block : ℕ) (figures : ℕ × ℤ) → Row
  -- reading::tracks: refusal, cylinder and head of the home track, cylinder and head of the track that the block lies on, shift
  read-tracks : (shape : Shape) (r : ℕ) (table : List ℕ) (block : ℕ) (figures : ℕ × ℕ × ℕ × ℕ × ℕ × ℤ) → Row
  -- spares::address_of: refusal, cylinder, head, sector, angle
  spare-address : (shape : Shape) (r : ℕ) (table : List ℕ) (block : ℕ) (figures : ℕ × ℕ × ℕ × ℕ × ℕ) → Row
  -- spares::sector_of: refusal, sector
  spare-sector : (shape : Shape) (r : ℕ) (table : List ℕ) (block : ℕ) (figures : ℕ × ℕ) → Row
  -- spares::block_on: refusal, whether a block lies there, block
  spare-block : (shape : Shape) (r : ℕ) (table : List ℕ) (sector : ℕ) (figures : ℕ × ℕ × ℕ) → Row
  -- spares::census: refusal, free, at the primary, elsewhere, unusable, null
  spare-census : (shape : Shape) (r : ℕ) (table : List ℕ) (figures : ℕ × ℕ × ℕ × ℕ × ℕ × ℕ) → Row
  -- spares::sector_of, of whatever block, with any scratch that is too short: refused 7
  spare-short : (shape : Shape) (r : ℕ) (table : List ℕ) → Row
  -- image::write, accepted, of good data or of data that was bad, with any block and code that a header may have: the code of the data that the image carries
  image-write : (size : ℕ) (forced : Bool) (bytes : List ℕ) (code : ℕ) → Row
  -- image::write, accepted, of whatever data: the four copies in the image's header
  image-heads : (size block code : ℕ) (heads : List ℕ) → Row
  -- image::write, of so many bytes into a room of so many: refused, and the room as it was
  image-unwritten : (size block code data-length room-length refusal : ℕ) → Row
  -- image::header, of an image with these four copies, whatever follows them: refusal, code, block
  image-header : (size : ℕ) (heads : List ℕ) (figures : ℕ × ℕ × ℕ) → Row
  -- image::judge, of such an image: refusal
  image-judge : (size : ℕ) (heads : List ℕ) (block code refusal : ℕ) → Row
  -- image::header, of whatever image of so many bytes: refused
  image-unheaded : (size image-length refusal : ℕ) → Row
  -- image::judge, of such an image, with whatever block and code: refused
  image-unjudged : (size image-length refusal : ℕ) → Row
  -- reading::judge, of a block whose sector holds a good image with this number in its header: refusal
  read-judge : (size : ℕ) (shape : Shape) (r : ℕ) (table : List ℕ) (block number refusal : ℕ) → Row
  -- reading::judge, with whatever else: refused for the size
  read-unsized : (size : ℕ) → Row
  -- mode::find: refusal, size
  mode-find : (images : List ℕ) (apart : ℕ) (figures : ℕ × ℕ) → Row

-- a row holds where the promise of its call allows its figures alone, in any room and with any scratch that is long enough
abbrev pub Holds : Row → Type 0
Holds (skip-sector n list block figures) = AllowsOnly (Skip.SectorOf n list block) (λ answer. said_number answer ≡ figures)
Holds (skip_block n list sector figures) = AllowsOnly (Skip.BlockOn n list sector) (λ answer. said_named answer ≡ figures)
Holds (shape-address shape sector figures) = AllowsOnly (Shapes.AddressOf shape sector) (λ answer. Shapes.said_located answer ≡ figures)
Holds (format n p g space option d grown list next) =
    (first second : List ℕ) → length grown ≤ length first → length list ≤ length second →
    AllowsOnly
    (λ (answer : Result Formatted Refusal × List ℕ × List ℕ). Formats n p g space option d first second answer.0 answer.1 answer.2)
    (λ answer. (said_formatted answer.0 ≡ (0, length grown, length list, next)) × (answer.1 ≡ written grown first) × (answer.2 ≡ written list second))
Holds (spare-first shape r list table) =
    (room : List ℕ) → length table ≤ length room →
    AllowsOnly
    (λ (answer : Result ℕ Refusal × List ℕ). FirstTable shape r list room answer.0 answer.1)
    (λ answer. (said_number answer.0 ≡ (0, length table)) × (answer.1 ≡ written table room))
Holds (spare-replace shape r table block place after) =
    (scratch : List ℕ) → Enough shape r scratch →
    AllowsOnly
    (λ (answer : Result ℕ Refusal × List ℕ). Spares.Replacement shape r table scratch block answer.0 answer.1)
    (λ answer. (said_number answer.0 ≡ (0, place)) × (answer.1 ≡ after))
Holds (spare-full shape r table) =
    (scratch : List ℕ) → Enough shape r scratch → (block : ℕ) → block < (drive_of shape r).blocks →
    AllowsOnly
    (λ (answer : Result ℕ Refusal × List ℕ). Spares.Replacement shape r table scratch block answer.0 answer.1)
    (λ answer. (said_number answer.0 ≡ (13, 0)) × (answer.1 ≡ table))
Holds (spare-shift shape r table block figures) =
    (scratch : List ℕ) → Enough shape r scratch →
    AllowsOnly (Spares.ShiftOf shape r table scratch block) (λ answer. Spares.said_shifted answer ≡ figures)
Holds (read-tracks shape r table block figures) =
    (scratch : List ℕ) → Enough shape r scratch →
    AllowsOnly (Reading.TracksOf shape r table scratch block) (λ answer. Reading.said_tracks answer ≡ figures)
Holds (spare-address shape r table block figures) =
    (scratch : List ℕ) → Enough shape r scratch →
    AllowsOnly (Spares.AddressOf shape r table scratch block) (λ answer. Shapes.said_located answer ≡ figures)
Holds (spare-sector shape r table block figures) =
    (scratch : List ℕ) → Enough shape r scratch →
    AllowsOnly (Spares.SectorOf shape r table scratch block) (λ answer. said_number answer ≡ figures)
Holds (spare-block shape r table sector figures) =
    (scratch : List ℕ) → Enough shape r scratch →
    AllowsOnly (Spares.BlockOn shape r table scratch sector) (λ answer. said_named answer ≡ figures)
Holds (spare-census shape r table figures) =
    (scratch : List ℕ) → Enough shape r scratch →
    AllowsOnly (Spares.CensusOf shape r table scratch) (λ answer. Spares.said_counted answer ≡ figures)
Holds (spare-short shape r table) =
    (scratch : List ℕ) → length scratch < (drive_of shape r).spares → (block : ℕ) →
    AllowsOnly (Spares.SectorOf shape r table scratch block) (λ answer. said_number answer ≡ (7, 0))
Holds (image-write size forced bytes code) =
    (block header-code : ℕ) → block < code_unit → Known header-code → (room : List ℕ) → size + image_extra ≤ length room →
    AllowsOnly
    (λ (answer : Result ℕ Refusal × List ℕ). Write size block header-code bytes forced room answer.0 answer.1)
    (λ answer. (said_number answer.0 ≡ (0, size + image_extra)) × (stored_in size answer.1 ≡ code))
Holds (image-heads size block code heads) =
    (bytes : List ℕ) (forced : Bool) (room : List ℕ) → length bytes ≡ size → size + image_extra ≤ length room →
    AllowsOnly
    (λ (answer : Result ℕ Refusal × List ℕ). Write size block code bytes forced room answer.0 answer.1)
    (λ answer. (said_number answer.0 ≡ (0, size + image_extra)) × (copies answer.1 ≡ heads))
Holds (image-unwritten size block code data-length room-length refusal) =
    (bytes : List ℕ) (forced : Bool) (room : List ℕ) → length bytes ≡ data-length → length room ≡ room-length →
    AllowsOnly
    (λ (answer : Result ℕ Refusal × List ℕ). Write size block code bytes forced room answer.0 answer.1)
    (λ answer. (said_number answer.0 ≡ (refusal, 0)) × (answer.1 ≡ room))
Holds (image-header size heads figures) =
    (rest : List ℕ) → header_size + length rest ≡ size + image_extra → AllowsOnly (Header size (bytes_of heads ++ rest)) (λ answer. said_head answer ≡ figures)
Holds (image-judge size heads block code refusal) =
    (rest : List ℕ) → header_size + length rest ≡ size + image_extra → AllowsOnly (Judge size (bytes_of heads ++ rest) block code) (λ answer. said_verdict answer ≡ refusal)
Holds (image-unheaded size image-length refusal) =
    (image : List ℕ) → length image ≡ image-length → AllowsOnly (Header size image) (λ answer. said_head answer ≡ (refusal, 0, 0))
Holds (image-unjudged size image-length refusal) =
    (image : List ℕ) (block code : ℕ) → length image ≡ image-length → AllowsOnly (Judge size image block code) (λ answer. said_verdict answer ≡ refusal)
Holds (read-judge size shape r table block number refusal) =
    (home spare bytes : List ℕ) → Bytes bytes → Holding size shape r table block home spare number bytes false →
    (scratch : List ℕ) → Enough shape r scratch → AllowsOnly (Reading.Judge size shape r table scratch block home spare) (λ answer. said_verdict answer ≡ refusal)
Holds (read-unsized size) =
    (shape : Shape) (r : ℕ) (table scratch : List ℕ) (block : ℕ) (home spare : List ℕ) →
    AllowsOnly (Reading.Judge size shape r table scratch block home spare) (λ answer. said_verdict answer ≡ 1)
Holds (mode-find images apart figures) = AllowsOnly (Finds images apart) (λ answer. said_number answer ≡ figures)

-- every row of a table holds
infixr 20 ◌also◌
pub data AllHold : List Row → Type 0 where
  done : AllHold []
  ◌also◌ : {row : Row} {rest : List Row} → Holds row → AllHold rest → AllHold (row ∷ rest)

-- a sector's data: all zero, the first word 1, the last word 1
abbrev pub zeros : ℕ → List ℕ
zeros size = replicate size 0

abbrev pub first_one : ℕ → List ℕ
first_one size = 0 ∷ 1 ∷ replicate (size - 2) 0

abbrev pub last_one : ℕ → List ℕ
last_one size = replicate (size - 1) 0 ++ (1 ∷ [])

-- so many words from word i on, each 1000 times its place, as far as 16 bits go
unfoldable pub thousands : ℕ → ℕ → List ℕ
thousands i zero = []
thousands i (suc count) = bytes16 (1000 * i % 65536) ++ thousands (suc i) count

-- the data of a mode sector: its first word, and zeros
abbrev pub mode_data : ℕ → List ℕ
mode_data word = bytes16 word ++ replicate 510 0

-- the image of a mode sector with this number in its header, good or forced
abbrev pub mode_image : ℕ → ℕ → Bool → List ℕ
mode_image number word forced = image_of number (mode_data word) forced

-- such an image with number 0, good but for the last byte of its code
abbrev pub mode_damaged : ℕ → List ℕ
mode_damaged word = set (mode_image 0 word false) 529 0

-- the table, in the paper's order, and then the rows of requests Q-9, Q-3, Q-6, Q-7, Q-4 and Q-10; what the paper does not mark P is said to be ours
abbrev pub paper_rows : List Row
paper_rows =
    -- the chart's blocks 3, 57, 58 and 843
    skip-sector 848 chart 3 (0, 4)
    ∷ skip-sector 848 chart 57 (0, 59)
    ∷ skip-sector 848 chart 58 (0, 62)
    ∷ skip-sector 848 chart 843 (0, 847)
    -- a bad sector has no block
    ∷ skip_block 848 chart 61 (0, 0, 0)
    -- one block too many is refused 5
    ∷ skip-sector 848 chart 844 (5, 0)
    -- a list that begins with sector 0
    ∷ skip-sector 6 few 0 (0, 3)
    -- a scan over P 3, 7 names blocks 3 and 16, in space 3 with option 1: G' is 4, 18
    ∷ format 20 (3 ∷ 7 ∷ []) [] 3 1 (3 ∷ 16 ∷ []) (4 ∷ 18 ∷ []) (3 ∷ 4 ∷ 7 ∷ 18 ∷ []) 3
    -- a block of the new map
    ∷ skip-sector 20 (3 ∷ 4 ∷ 7 ∷ 18 ∷ []) 15 (0, 19)
    -- ours: the next night's scan names blocks 3 and 15 of the new map: G' is 4, 5, 18, 19
    ∷ format 20 (3 ∷ 7 ∷ []) (4 ∷ 18 ∷ []) 3 1 (3 ∷ 15 ∷ []) (4 ∷ 5 ∷ 18 ∷ 19 ∷ []) (3 ∷ 4 ∷ 5 ∷ 7 ∷ 18 ∷ 19 ∷ []) 3
    -- ours: in the 18 numbers that the first scan is written in, these are blocks 4 and 17
    ∷ skip-sector 18 (3 ∷ 16 ∷ []) 3 (0, 4)
    ∷ skip-sector 18 (3 ∷ 16 ∷ []) 15 (0, 17)
    -- ours: one night with the joined list answers what the two have answered
    ∷ format 20 (3 ∷ 7 ∷ []) [] 3 1 (3 ∷ 4 ∷ 16 ∷ 17 ∷ []) (4 ∷ 5 ∷ 18 ∷ 19 ∷ []) (3 ∷ 4 ∷ 5 ∷ 7 ∷ 18 ∷ 19 ∷ []) 3
    -- ours: a drive with no bad sector has every spare free
    ∷ spare-first small 2 [] none_replaced
    -- block 7 goes to place 4, then 8 to 5, then 6 to 3
    ∷ spare-replace small 2 none_replaced 7 4 after_seven
    ∷ spare-replace small 2 after_seven 8 5 after_eight
    ∷ spare-replace small 2 after_eight 6 3 after_six
    -- block 6 is then shifted by −1
    ∷ spare-shift small 2 after_six 6 (0, negsuc 0)
    -- ours: it lies on sector 9, the second spare of track 1, and its home, sector 10, has no block
    ∷ spare-sector small 2 after_six 6 (0, 9)
    ∷ spare-block small 2 after_six 9 (0, 1, 6)
    ∷ spare-block small 2 after_six 10 (0, 0, 0)
    -- ours: five spares are free, one holds a block whose primary it is, two hold other blocks, and 120 places are null
    ∷ spare-census small 2 after_six (0, 5, 1, 2, 0, 120)
    -- the code of good data
    ∷ image-write 512 false (zeros 512) 0x5a3c
    ∷ image-write 512 false (first_one 512) 0xda3c
    ∷ image-write 512 false (last_one 512) 0x5a3d
    -- and of data that was bad when it was written
    ∷ image-write 512 true (zeros 512) 0xa5c3
    -- Q-9, ours, as all that follow: two groups of two tracks, the second three sectors after the first
    ∷ shape-address two_groups 0 (0, 0, 0, 0, 0)
    ∷ shape-address two_groups 9 (0, 0, 1, 4, 4)
    ∷ shape-address two_groups 10 (0, 0, 2, 0, 3)
    ∷ shape-address two_groups 13 (0, 0, 2, 3, 1)
    ∷ shape-address two_groups 19 (0, 0, 3, 4, 2)
    ∷ shape-address two_groups 20 (0, 1, 0, 0, 0)
    ∷ shape-address two_groups 39 (0, 1, 3, 4, 2)
    -- the last sector of the largest drive
    ∷ shape-address largest 16777215 (0, 4095, 63, 63, 0)
    -- block 6 of the small drive at home, and on its spare
    ∷ spare-address small 2 none_replaced 6 (0, 1, 0, 0, 0)
    ∷ spare-address small 2 after_six 6 (0, 0, 1, 4, 1)
    -- no group, and no track of a group
    ∷ shape-address (four_heads 0 4 0) 0 (1, 0, 0, 0, 0)
    ∷ shape-address (four_heads 4 0 0) 0 (1, 0, 0, 0, 0)
    -- more heads in the groups than the drive has
    ∷ shape-address (four_heads 2 3 0) 0 (1, 0, 0, 0, 0)
    ∷ shape-address (four_heads 4 2 0) 0 (1, 0, 0, 0, 0)
    -- products of which 32 bits are 0, and 4
    ∷ shape-address (four_heads 65536 65536 0) 0 (1, 0, 0, 0, 0)
    ∷ shape-address (four_heads 1073741825 4 0) 0 (1, 0, 0, 0, 0)
    -- the largest offset, one too large, and one far too large
    ∷ shape-address (four_heads 2 2 4) 10 (0, 0, 2, 0, 4)
    ∷ shape-address (four_heads 2 2 5) 10 (1, 0, 0, 0, 0)
    ∷ shape-address (four_heads 2 2 4294967295) 10 (1, 0, 0, 0, 0)
    -- Q-3: block 7, which lies on place 4, is replaced again, by 5; then 8 goes to 3, 7 to 6, 6 to 2, 7 to 7, 0 to 0, and 7 to 1
    ∷ spare-replace small 2 after_seven 7 5 seven_on_five
    ∷ spare-replace small 2 seven_on_five 8 3 eight_on_three
    ∷ spare-replace small 2 eight_on_three 7 6 seven_on_six
    ∷ spare-replace small 2 seven_on_six 6 2 six_on_two
    ∷ spare-replace small 2 six_on_two 7 7 seven_on_seven
    ∷ spare-replace small 2 seven_on_seven 0 0 zero_on_zero
    ∷ spare-replace small 2 zero_on_zero 7 1 seven_on_one
    -- no spare is left for any block, at home or not
    ∷ spare-full small 2 seven_on_one
    -- four spares hold blocks and four are unusable
    ∷ spare-census small 2 seven_on_one (0, 0, 1, 3, 4, 120)
    -- block 7 lies on sector 4, the second spare of track 0, and its shift is −1
    ∷ spare-sector small 2 seven_on_one 7 (0, 4)
    ∷ spare-shift small 2 seven_on_one 7 (0, negsuc 0)
    -- block 6, which lies on place 3 beside blocks 7 and 8, goes to place 6, in its own cylinder
    ∷ spare-replace small 2 after_six 6 6 (eight 0 0 0 0x40000000 0x20000007 0x30000008 0x30000006 0)
    ∷ spare-shift small 2 (eight 0 0 0 0x40000000 0x20000007 0x30000008 0x30000006 0) 6 (0, pos 0)
    -- block 0 on its spare, with every other spare unusable, keeps it
    ∷ spare-full small 2 (eight 0x20000000 0x40000000 0x40000000 0x40000000 0x40000000 0x40000000 0x40000000 0x40000000)
    -- Q-6: scratch that is too short is refused 7, also where the table breaks a rule, or no such block is
    ∷ spare-short small 2 after_six
    ∷ spare-short small 2 (holding 0x30000007 0x20000007 0)
    -- Q-7: block 7 on place 5 with its primary, place 4, free is refused 11; with place 4 unusable it lies on sector 14
    ∷ spare-sector small 2 seven_past_four 7 (11, 0)
    ∷ spare-sector small 2 seven_on_five 7 (0, 14)
    -- block 8 on place 3, with place 4 taken: place 5 comes before 3, and must not be free
    ∷ spare-census small 2 (holding 0x30000008 0x20000007 0) (11, 0, 0, 0, 0, 0)
    ∷ spare-sector small 2 (holding 0x30000008 0x20000007 0x40000000) 8 (0, 9)
    -- scratch is looked at before holes
    ∷ spare-short small 2 seven_past_four
    -- block 0 in the last table block: every place before place 256 comes before it
    ∷ spare-sector tall 1 (tall_with 256 0x30000000) 0 (0, 770)
    ∷ spare-sector tall 1 (set (tall_with 256 0x30000000) 200 0) 0 (11, 0)
    -- block 400, whose primary is place 200, in the first table block: the last place before null and place 4 come before place 5, and place 6 does not
    ∷ spare-sector tall 1 (tall_with 5 0x30000190) 400 (0, 17)
    ∷ spare-sector tall 1 (set (tall_with 5 0x30000190) 259 0) 400 (11, 0)
    ∷ spare-sector tall 1 (set (tall_with 5 0x30000190) 4 0) 400 (11, 0)
    ∷ spare-sector tall 1 (set (tall_with 5 0x30000190) 6 0) 400 (0, 17)
    -- Q-4: the header of block 7 at home and at its primary, and of the last block that a header can carry, elsewhere
    ∷ image-heads 512 7 0 (replicate 4 0x00000007)
    ∷ image-heads 512 7 2 (replicate 4 0x20000007)
    ∷ image-heads 512 268435455 3 (replicate 4 0x3fffffff)
    -- a block more, with code 1 too: first the length of the data is looked at, then the block
    ∷ image-unwritten 512 268435456 1 511 530 14
    ∷ image-unwritten 512 268435456 1 512 530 5
    -- then the code, and then the room
    ∷ image-unwritten 512 7 1 512 530 22
    ∷ image-unwritten 512 7 15 512 530 22
    ∷ image-unwritten 512 7 2 512 529 7
    -- three copies of four
    ∷ image-header 512 (0x30000007 ∷ 0x30000007 ∷ 0x30000007 ∷ 0x00000007 ∷ []) (0, 3, 7)
    -- fourth codes
    ∷ image-header 512 (replicate 4 0x10000007) (16, 0, 0)
    ∷ image-header 512 (replicate 4 0x80000000) (16, 0, 0)
    ∷ image-header 512 (replicate 4 0xffffffff) (16, 0, 0)
    -- two copies and two: whole numbers are compared
    ∷ image-header 512 (0x20000007 ∷ 0x20000007 ∷ 0x00000007 ∷ 0x00000007 ∷ []) (15, 0, 0)
    -- block 7 at its primary, where another code is expected, or a pair that makes the same word
    ∷ image-judge 512 (replicate 4 0x20000007) 7 0 16
    ∷ image-judge 512 (replicate 4 0x20000007) 7 1 16
    ∷ image-judge 512 (replicate 4 0x20000007) 7 3 16
    ∷ image-judge 512 (replicate 4 0x20000007) 268435463 1 16
    -- a fourth code that is expected too
    ∷ image-judge 512 (replicate 4 0x10000007) 7 1 16
    -- reads of block 7 at its primary, of block 8 elsewhere, and of block 6 at home
    ∷ read-judge 512 small 2 after_eight 7 0x20000007 0
    ∷ read-judge 512 small 2 after_eight 7 0x30000007 16
    ∷ read-judge 512 small 2 after_eight 7 0x00000007 16
    ∷ read-judge 512 small 2 after_eight 8 0x30000008 0
    ∷ read-judge 512 small 2 after_eight 8 0x20000008 16
    ∷ read-judge 512 small 2 after_eight 6 0x00000006 0
    ∷ read-judge 512 small 2 after_eight 6 0x20000006 16
    -- Q-10: the code of 576 bytes
    ∷ image-write 576 false (zeros 576) 0x5a3c
    ∷ image-write 576 true (zeros 576) 0xa5c3
    ∷ image-write 576 false (first_one 576) 0xda3c
    ∷ image-write 576 false (last_one 576) 0x5a3d
    ∷ image-write 576 false (thousands 0 288) 0xa541
    ∷ image-write 576 true (thousands 0 288) 0x5abe
    -- and of a mode sector that says either size
    ∷ image-write 512 false (mode_data 0x200) 0x5b3c
    ∷ image-write 512 false (mode_data 0x240) 0x5b1c
    -- a size that is neither, before every other fault
    ∷ image-unwritten 0 268435456 1 511 0 1
    ∷ image-unwritten 511 268435456 1 512 0 1
    ∷ image-unwritten 513 268435456 1 512 0 1
    ∷ image-unwritten 575 268435456 1 576 0 1
    ∷ image-unwritten 577 268435456 1 576 0 1
    ∷ image-unwritten 4294967295 268435456 1 512 0 1
    ∷ image-unheaded 575 593 1
    ∷ image-unjudged 577 595 1
    ∷ read-unsized 513
    -- the other size's data and image, and a room that is a byte too short
    ∷ image-unwritten 576 7 0 512 594 14
    ∷ image-unwritten 512 7 0 576 594 14
    ∷ image-unwritten 576 7 0 576 593 7
    ∷ image-unheaded 576 530 14
    ∷ image-unheaded 512 594 14
    ∷ image-unjudged 576 530 14
    ∷ image-unjudged 512 594 14
    -- a header and a read at 576
    ∷ image-header 576 (replicate 4 0x30000007) (0, 3, 7)
    ∷ read-judge 576 small 2 after_eight 7 0x20000007 0
    ∷ read-judge 576 small 2 after_eight 7 0x00000007 16
    -- the mode: XBN 0 says either size
    ∷ mode-find (mode_image 0 0x240 false) 1 (0, 576)
    ∷ mode-find (mode_image 0 0x200 false) 7 (0, 512)
    ∷ mode-find (mode_image 0 0x200 false) 4294967295 (0, 512)
    -- XBN 0 was bad when it was written, and XBN 2 says 576
    ∷ mode-find (mode_image 0 0x200 true ++ (mode_image 1 0x200 false ++ mode_image 2 0x240 false)) 2 (0, 576)
    -- a first word that is no size, and a header with another code, send you to the next
    ∷ mode-find (mode_image 0 0x201 false ++ mode_image 1 0x200 false) 1 (0, 512)
    ∷ mode-find (mode_image 0x20000000 0x200 false ++ mode_image 1 0x240 false) 1 (0, 576)
    -- a sector that could not be read, and for which zeros are lent, sends you to the next too
    ∷ mode-find (replicate 530 0 ++ mode_image 1 0x240 false) 1 (0, 576)
    -- no sector apart
    ∷ mode-find (mode_image 0 0x200 false) 0 (1, 0)
    ∷ mode-find [] 0 (1, 0)
    -- no images, and an image that is a byte too short
    ∷ mode-find [] 1 (21, 0)
    ∷ mode-find (take 529 (mode_image 0 0x200 false)) 1 (21, 0)
    -- a wrong code at XBN 0, and XBN 1 headed 0; XBN 1 good, but no copy; XBN 1 good, but a byte too short
    ∷ mode-find (mode_damaged 0x200 ++ mode_image 0 0x200 false) 1 (21, 0)
    ∷ mode-find (mode_damaged 0x200 ++ mode_image 1 0x200 false) 2 (21, 0)
    ∷ mode-find (mode_damaged 0x200 ++ take 529 (mode_image 1 0x200 false)) 1 (21, 0)
    -- beyond the paper, the tracks of a read: block 6 at home, on the spare one cylinder nearer to cylinder 0, and on one in its own cylinder
    ∷ read-tracks small 2 none_replaced 6 (0, 1, 0, 1, 0, pos 0)
    ∷ read-tracks small 2 after_six 6 (0, 1, 0, 0, 1, negsuc 0)
    ∷ read-tracks small 2 (eight 0 0 0 0x40000000 0x20000007 0x30000008 0x30000006 0) 6 (0, 1, 0, 1, 1, pos 0)
    -- block 7 on a spare of its own track, and block 0 on one a cylinder further from cylinder 0
    ∷ read-tracks small 2 after_six 7 (0, 1, 0, 1, 0, pos 0)
    ∷ read-tracks small 2 (eight 0x40000000 0x40000000 0x40000000 0x40000000 0x30000000 0 0 0) 0 (0, 0, 0, 1, 0, pos 1)
    -- the last block, one past it, a table with a hole, and no spares
    ∷ read-tracks small 2 after_six 11 (0, 1, 1, 1, 1, pos 0)
    ∷ read-tracks small 2 after_six 12 (5, 0, 0, 0, 0, pos 0)
    ∷ read-tracks small 2 seven_past_four 7 (11, 0, 0, 0, 0, pos 0)
    ∷ read-tracks small 0 after_six 6 (1, 0, 0, 0, 0, pos 0)
    ∷ []
