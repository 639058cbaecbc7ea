-- The refusal numbers of the paper, "Refusal numbers", and of document 02, by name. Each name says what its row says.
use Rattle.std.specs.Prelude.{ℕ}

-- N, a number of the shape, r, the number of all spares, or the size of a sector's data is out of its range, or copies of a format table lie no sector apart
abbrev pub out_of_range : ℕ
out_of_range = 1

-- a list is longer than a list may be, or a list to be made would be
abbrev pub too_long : ℕ
too_long = 2

-- an entry of a list does not exceed its neighbour before it
abbrev pub not_rising : ℕ
not_rising = 3

-- an entry of a list is no unit of its space
abbrev pub outside : ℕ
outside = 4

-- the drive has no block of this number, or no header can carry it
abbrev pub no_such_block : ℕ
no_such_block = 5

-- the drive has no sector of this number, or no such cylinder, head or sector of a track
abbrev pub no_such_sector : ℕ
no_such_sector = 6

-- the result does not fit into the room, or the scratch has too few numbers
abbrev pub no_room : ℕ
no_room = 7

-- the bytes are no page, or there is no such kind of page to write
abbrev pub bad_page : ℕ
bad_page = 8

-- the cursor does not belong to this N and list
abbrev pub stray_cursor : ℕ
stray_cursor = 9

-- there is no such option or space, or a list came with an option that takes none
abbrev pub bad_option : ℕ
bad_option = 10

-- the descriptor table breaks its rules
abbrev pub bad_table : ℕ
bad_table = 11

-- 12 is no longer given, and no other refusal takes the number: a block that is replaced already is replaced again

-- no spare is left, or too few for all bad homes of a first table
abbrev pub no_spare : ℕ
no_spare = 13

-- data or an image is not as long as it must be
abbrev pub wrong_length : ℕ
wrong_length = 14

-- fewer than three copies in a header agree
abbrev pub no_address : ℕ
no_address = 15

-- the header does not say the block and the code that are expected, or its code is none of the three
abbrev pub other_block : ℕ
other_block = 16

-- the data was bad when it was written
abbrev pub forced_error : ℕ
forced_error = 17

-- the code matches neither way
abbrev pub bad_code : ℕ
bad_code = 18

-- no copy of the format table says the size of a sector's data
abbrev pub no_mode : ℕ
no_mode = 21

-- there is no such code to write into a header
abbrev pub unknown_code : ℕ
unknown_code = 22
