-- The number of each refusal, by the paper's table.
use Rattle.std.specs.Prelude.{ℕ}
use Rattle.paper.specs.Refusals.{out_of_range, too_long, not_rising, outside, no_such_block, no_such_sector, no_room, bad_page, stray_cursor, bad_option, bad_table, no_spare, wrong_length, no_address, other_block, forced_error, bad_code, no_mode, unknown_code}
use Rattle.paper.specs.declared.Refusal.{Refusal}
use Rattle.paper.specs.declared.Refusal.TheVariants.{OutOfRange, TooLong, NotRising, Outside, NoSuchBlock, NoSuchSector, NoRoom, BadPage, StrayCursor, BadOption, BadTable, NoSpare, WrongLength, NoAddress, OtherBlock, ForcedError, BadCode, NoMode, UnknownCode}

abbrev pub number : Refusal → ℕ
number OutOfRange = out_of_range
number TooLong = too_long
number NotRising = not_rising
number Outside = outside
number NoSuchBlock = no_such_block
number NoSuchSector = no_such_sector
number NoRoom = no_room
number BadPage = bad_page
number StrayCursor = stray_cursor
number BadOption = bad_option
number BadTable = bad_table
number NoSpare = no_spare
number WrongLength = wrong_length
number NoAddress = no_address
number OtherBlock = other_block
number ForcedError = forced_error
number BadCode = bad_code
number NoMode = no_mode
number UnknownCode = unknown_code
