-- What the calls of `reading` promise, for any number of data bytes, and what the public ones promise: the same, once the size of the data is found to be one of the two.
use Rattle.std.specs.Prelude.{ℕ, List, ◌≡◌, ℤ, pos, take, drop, Result, Ok, Err}
use Rattle.std.specs.Borrow.{Bor}
use Rattle.paper.specs.Checks.{◌or_else◌, answer}
use Rattle.paper.specs.Numbers.{number}
use Rattle.paper.specs.Promise.{Passes, Gives}
use Rattle.paper.specs.declared.Refusal.{Refusal}
use Rattle.paper.specs.Limits.{data_size_fault}
use Rattle.shape.specs.declared.Shape.{Shape}
use Rattle.shape.specs.Addresses.{address_at}
use Rattle.layout.specs.Layouts.{drive_of, home_sector}
use Rattle.table.specs.Rules.{block_fault}
use Rattle.table.specs.Lookup.{lies_on}
use Rattle.table.specs.Scratch.{scratch_after}
use Rattle.arm.specs.Shifts.{shift_of}
use Rattle.image.specs.Image.{data_of}
use Rattle.image.specs.Promises.{Lends, LendsNone}
use Rattle.reading.specs.declared.answers.Track.{Track}
use Rattle.reading.specs.declared.answers.Pair.{Pair}
use Rattle.reading.specs.declared.answers.Spot.{Spot}
use Rattle.reading.specs.declared.answers.Spot.TheVariants.{InHome, InSpare}
use Rattle.reading.specs.Tracks.{track_of, data_start, image_for}
use Rattle.reading.specs.Faults.{block_read_fault}

-- refusal, cylinder and head of the home track, cylinder and head of the track that the block lies on, shift
abbrev pub said_tracks : Result Pair Refusal → ℕ × ℕ × ℕ × ℕ × ℕ × ℤ
said_tracks (Ok pair) = (0, pair.home.cylinder, pair.home.head, pair.there.cylinder, pair.there.head, pair.shift)
said_tracks (Err refusal) = (number refusal, 0, 0, 0, 0, pos 0)

-- the track of a sector
abbrev pub track_at : Shape → ℕ → Track
track_at shape s = record { cylinder = (address_at shape s).cylinder; head = (address_at shape s).head }

-- the tracks of a block's home and of the sector that it lies on, and its shift
abbrev pub pair_of : Shape → ℕ → List ℕ → ℕ → Pair
pair_of shape r t b =
    record {
      home = track_at shape (home_sector (drive_of shape r) b);
      there = track_at shape (lies_on (drive_of shape r) t b);
      shift = shift_of (drive_of shape r) t b;
    }

-- the tracks to fetch for a read of a block; what is left of the scratch is `Scratched` of `table`
abbrev pub TracksOf : Shape → ℕ → List ℕ → List ℕ → ℕ → Result Pair Refusal → Type 0
TracksOf shape r t scratch b = Gives (block_fault shape r t scratch b) (pair_of shape r t b)

-- refusal, image (0 that of the home track, 1 the second), offset of the data inside it
abbrev pub said_spot : Result Spot Refusal → ℕ × ℕ × ℕ
said_spot (Ok (InHome offset)) = (0, 0, offset)
said_spot (Ok (InSpare offset)) = (0, 1, offset)
said_spot (Err refusal) = (number refusal, 0, 0)

-- where the data of a block begins
abbrev pub spot_of : ℕ → Shape → ℕ → List ℕ → ℕ → Spot
spot_of size shape r t b = track_of t b InHome InSpare (data_start size (drive_of shape r) t b)

abbrev pub SpotSized : ℕ → Shape → ℕ → List ℕ → List ℕ → ℕ → List ℕ → List ℕ → Result Spot Refusal → Type 0
SpotSized size shape r t scratch b home spare = Gives (block_read_fault size shape r t scratch b home spare) (spot_of size shape r t b)

abbrev pub JudgeSized : ℕ → Shape → ℕ → List ℕ → List ℕ → ℕ → List ℕ → List ℕ → Result Unit Refusal → Type 0
JudgeSized size shape r t scratch b home spare = Passes (block_read_fault size shape r t scratch b home spare)

-- the data of a block where it lies in the image that the block lies in
abbrev pub LendsBlock : ℕ → Shape → ℕ → List ℕ → ℕ → Bor (List ℕ) → Bor (List ℕ) → Bor (List ℕ) → Type 0
LendsBlock size shape r t b home spare =
    Lends (track_of t b home spare) (data_start size (drive_of shape r) t b) (data_of size (image_for size (drive_of shape r) t b home.now spare.now))

-- the part that is handed back: that data, or the empty part at the start of home
abbrev pub DataSized : ℕ → Shape → ℕ → List ℕ → List ℕ → ℕ → Bor (List ℕ) → Bor (List ℕ) → Bor (List ℕ) → Type 0
DataSized size shape r t scratch b home spare =
    answer (block_read_fault size shape r t scratch b home.now spare.now) (λ fault. LendsNone home) (LendsBlock size shape r t b home spare)

-- the part at a spot: so many bytes from the offset on, in the image that the spot names; none at the start of home for a refusal
pub data AtSpot (size : ℕ) (home spare part : Bor (List ℕ)) : Result Spot Refusal → Type 0 where
  in-home : {offset : ℕ} → Lends home offset (take size (drop offset home.now)) part → AtSpot size home spare part (Ok (InHome offset))
  in-spare : {offset : ℕ} → Lends spare offset (take size (drop offset spare.now)) part → AtSpot size home spare part (Ok (InSpare offset))
  nowhere : {refusal : Refusal} → LendsNone home part → AtSpot size home spare part (Err refusal)

-- the public calls: first the size is looked at, and any but the two is refused 1
abbrev pub Judge : ℕ → Shape → ℕ → List ℕ → List ℕ → ℕ → List ℕ → List ℕ → Result Unit Refusal → Type 0
Judge size shape r t scratch b home spare = Passes (data_size_fault size or_else block_read_fault size shape r t scratch b home spare)

abbrev pub Data : ℕ → Shape → ℕ → List ℕ → List ℕ → ℕ → Bor (List ℕ) → Bor (List ℕ) → Bor (List ℕ) → Type 0
Data size shape r t scratch b home spare =
    answer (data_size_fault size or_else block_read_fault size shape r t scratch b home.now spare.now) (λ fault. LendsNone home) (LendsBlock size shape r t b home spare)

abbrev pub Spots : ℕ → Shape → ℕ → List ℕ → List ℕ → ℕ → List ℕ → List ℕ → Result Spot Refusal → Type 0
Spots size shape r t scratch b home spare = Gives (data_size_fault size or_else block_read_fault size shape r t scratch b home spare) (spot_of size shape r t b)

-- what they leave of their scratch: refused for the size, all as it was; else what every call leaves that is lent a table
abbrev pub ReadScratched : ℕ → Shape → ℕ → List ℕ → List ℕ → Type 0
ReadScratched size shape r before after = after ≡ answer (data_size_fault size) (λ fault. before) (scratch_after shape r before)
