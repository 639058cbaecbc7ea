-- Document 01, "Descriptors and spares": which block's home, or which spare, a sector of the drive is.
use Rattle.std.specs.Prelude.{ℕ, ◌+◌, ◌-◌, ◌*◌, ◌/◌, ◌%◌, Bool, ltb}
use Rattle.layout.specs.declared.Drive.{Drive}
use Rattle.layout.specs.Layouts.{sectors_per_track}

-- a sector is a home: the spares are at the end of each track
abbrev pub is_home : Drive → ℕ → Bool
is_home drive s = ltb (s % sectors_per_track drive) drive.l

-- the block whose home a sector is
abbrev pub block_of_home : Drive → ℕ → ℕ
block_of_home drive s = s / sectors_per_track drive * drive.l + s % sectors_per_track drive

-- the number of the spare that a sector is, which is its place in the table
abbrev pub place_of_spare : Drive → ℕ → ℕ
place_of_spare drive s = s / sectors_per_track drive * drive.r + (s % sectors_per_track drive - drive.l)
