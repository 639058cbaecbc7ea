-- Document 01, "Sector image", and document 02, Q-4: what an image holds, for any number of data bytes, and the checks of an image and of its writer.
use Rattle.std.specs.Prelude.{ℕ, ◌+◌, ◌≤◌, Bool, not, List, ◌++◌, eqb, ltb, leb, length, take, drop, replicate}
use Rattle.paper.specs.Checks.{pick, refuse, ◌or_else◌}
use Rattle.paper.specs.Limits.{header_size, image_extra}
use Rattle.paper.specs.Refusals.{no_such_block, no_room, wrong_length, no_address, other_block, forced_error, bad_code, unknown_code}
use Rattle.words.specs.Coded.{code_unit, word_of, code_of}
use Rattle.words.specs.Words.{bytes16, word16_at, word32_at, bytes_of, entries_at}
use Rattle.seek.specs.Count.{times}
use Rattle.image.specs.Code.{data_code, complement, carried}
use Rattle.image.specs.Header.{is_known, may_head}

-- copies of the number in a header
abbrev pub copies_made : ℕ
copies_made = 4

-- copies that must be alike
abbrev pub copies_least : ℕ
copies_least = 3

-- the copies of the number in an image's header, whole numbers of four bytes
unfoldable pub copies : List ℕ → List ℕ
copies image = entries_at image 0 copies_made

-- the number stands in at least three of the four copies
abbrev pub Stands : List ℕ → ℕ → Type 0
Stands image number = copies_least ≤ times number (copies image)

-- the only number that can stand so: the first copy, or the second where the first stands too seldom
unfoldable pub header_of : List ℕ → ℕ
header_of image = pick (ltb (times (word32_at image 0) (copies image)) copies_least) (word32_at image 4) (word32_at image 0)

-- the data of an image
unfoldable pub data_of : ℕ → List ℕ → List ℕ
data_of size image = take size (drop header_size image)

-- the code that stands in an image
unfoldable pub stored_in : ℕ → List ℕ → ℕ
stored_in size image = word16_at image (header_size + size)

-- the code that its data has
unfoldable pub found_in : ℕ → List ℕ → ℕ
found_in size image = data_code (data_of size image)

-- the bytes of an image: four copies of the number, the data, and the code or its complement
unfoldable pub image_of : ℕ → List ℕ → Bool → List ℕ
image_of number bytes forced = bytes_of (replicate copies_made number) ++ (bytes ++ bytes16 (carried forced bytes))

-- 14 for bytes of another length
abbrev pub length_fault : ℕ → List ℕ → ℕ
length_fault long bytes = refuse (not (eqb (length bytes) long)) wrong_length

-- 15 for a header in which no number stands in three copies
unfoldable pub copies_fault : List ℕ → ℕ
copies_fault image = refuse (ltb (times (header_of image) (copies image)) copies_least) no_address

-- 17 for a stored code that is the complement of the one found, 18 for any other but that one
abbrev pub code_fault : ℕ → ℕ → ℕ
code_fault stored found = pick (eqb stored found) 0 (pick (eqb stored (complement found)) forced_error bad_code)

-- 15, 16, then 17 or 18: checks of what an image of the right length holds, which is to carry the number
unfoldable pub contents_fault : ℕ → List ℕ → ℕ → ℕ
contents_fault size image number =
    copies_fault image
    or_else (refuse (not (eqb (header_of image) number)) other_block
    or_else code_fault (stored_in size image) (found_in size image))

-- the same where a block and a code are expected: no number says a block of more than 28 bits or a fourth code, and such a pair is never met
unfoldable pub pair_fault : ℕ → List ℕ → ℕ → ℕ → ℕ
pair_fault size image block code = pick (may_head code block) (contents_fault size image (word_of code block)) (copies_fault image or_else other_block)

-- 14, 15, 16: checks of a header by itself, which is to have one of the three codes
unfoldable pub header_fault : ℕ → List ℕ → ℕ
header_fault size image =
    length_fault (size + image_extra) image
    or_else (copies_fault image
    or_else refuse (not (is_known (code_of (header_of image)))) other_block)

-- 14 to 18: checks of an image
unfoldable pub image_fault : ℕ → List ℕ → ℕ → ℕ → ℕ
image_fault size image block code = length_fault (size + image_extra) image or_else pair_fault size image block code

-- 14, 5, 22, 7: checks of the writer
unfoldable pub write_fault : ℕ → ℕ → ℕ → List ℕ → List ℕ → ℕ
write_fault size block code bytes room =
    length_fault size bytes
    or_else (refuse (leb code_unit block) no_such_block
    or_else (refuse (not (is_known code)) unknown_code
    or_else refuse (ltb (length room) (size + image_extra)) no_room))
