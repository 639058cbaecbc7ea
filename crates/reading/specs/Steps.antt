-- For the code alone: no sentence of the paper needs it.
-- Where a block lies, as the code hands it on.
use Rattle.std.specs.Prelude.{ℕ, List}
use Rattle.layout.specs.declared.Drive.{Drive}
use Rattle.table.specs.Lookup.{is_replaced}
use Rattle.reading.specs.declared.Seat.{Seat}
use Rattle.reading.specs.Tracks.{sector_in, header_for}

-- whether a block lies on a spare, on which sector of the track, and the number that the header there must carry
abbrev pub seat_of : Drive → List ℕ → ℕ → Seat
seat_of drive t b = record { replaced = is_replaced t b; sector = sector_in drive t b; header = header_for t b }
