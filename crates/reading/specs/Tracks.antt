-- Document 01, "Descriptors and spares" and "Sector image", and document 02, Q-4: in which of the two track images a block lies, where in it, and the header that it must have there, for any number of data bytes.
use Rattle.std.specs.Prelude.{ℕ, ◌+◌, ◌*◌, ◌%◌, ◌<◌, List, length, get_or, take, drop}
use Rattle.paper.specs.Checks.{pick}
use Rattle.paper.specs.Limits.{header_size, image_extra}
use Rattle.words.specs.Coded.{word_of, code_of}
use Rattle.layout.specs.declared.Drive.{Drive}
use Rattle.layout.specs.Descriptors.{Names}
use Rattle.table.specs.Lookup.{Replaced, place_of, is_replaced}
use Rattle.image.specs.Header.{at_home}

-- which image a block lies in, on which sector of that track, and with which code: at home on b mod l, with code 0; or, where place q names it, in the second image on l + q mod r, with the code of that descriptor
pub data Seated {Track : Type 0} (drive : Drive) (t : List ℕ) (b : ℕ) (home spare : Track) : Track → ℕ → ℕ → Type 0 where
  at-home : (Replaced t b → ⊥) → Seated drive t b home spare home (b % drive.l) at_home
  on-spare : (q : ℕ) → q < length t → Names (get_or t q 0) b → Seated drive t b home spare spare (drive.l + q % drive.r) (code_of (get_or t q 0))

-- the image that a block lies in: the second one for a replaced block, also where its spare lies in its home track
abbrev pub track_of {ℓ} : {Track : Type ℓ} → List ℕ → ℕ → Track → Track → Track
track_of t b home spare = pick (is_replaced t b) spare home

-- the sector inside the track that it lies on
unfoldable pub sector_in : Drive → List ℕ → ℕ → ℕ
sector_in drive t b = pick (is_replaced t b) (drive.l + place_of t b % drive.r) (b % drive.l)

-- bytes of so many sector images one after the other
abbrev pub bytes_in : ℕ → ℕ → ℕ
bytes_in size sectors = sectors * (size + image_extra)

-- where in the image of its track a block's sector image starts, and where its data does
abbrev pub start_of : ℕ → Drive → List ℕ → ℕ → ℕ
start_of size drive t b = bytes_in size (sector_in drive t b)

abbrev pub data_start : ℕ → Drive → List ℕ → ℕ → ℕ
data_start size drive t b = start_of size drive t b + header_size

-- the sector image that starts at a place of a track
unfoldable pub image_at : ℕ → ℕ → List ℕ → List ℕ
image_at size start track = take (size + image_extra) (drop start track)

-- the sector image of a block
abbrev pub image_for : ℕ → Drive → List ℕ → ℕ → List ℕ → List ℕ → List ℕ
image_for size drive t b home spare = image_at size (start_of size drive t b) (track_of t b home spare)

-- the code that the table says of a block: that of its descriptor, or 0 where it has none
unfoldable pub code_for : List ℕ → ℕ → ℕ
code_for t b = pick (is_replaced t b) (code_of (get_or t (place_of t b) 0)) at_home

-- the number that the header of its sector must carry
unfoldable pub header_for : List ℕ → ℕ → ℕ
header_for t b = word_of (code_for t b) b
