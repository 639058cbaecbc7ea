-- Document 01, "Descriptors and spares": the first table of a list of bad sectors, its checks, and what holds of it.
use Rattle.std.specs.Prelude.{ℕ, ◌-◌, ◌<◌, ◌≡◌, true, false, List, [], ◌∷◌, ltb, length, get_or}
use Rattle.paper.specs.Checks.{refuse, ◌or_else◌}
use Rattle.paper.specs.Refusals.{no_room, no_spare}
use Rattle.paper.specs.Exactly.{When, ◌and_then◌}
use Rattle.paper.specs.Conditions.{NoRoom}
use Rattle.lists.specs.Proper.{list_fault, ListJudged}
use Rattle.shape.specs.declared.Shape.{Shape}
use Rattle.shape.specs.Shapes.{size_of}
use Rattle.layout.specs.declared.Drive.{Drive}
use Rattle.layout.specs.Layouts.{drive_of, drive_fault, DriveJudged, home_sector, spare_sector}
use Rattle.layout.specs.Descriptors.{free, unusable, code_of}
use Rattle.table.specs.Rules.{Breaks}
use Rattle.table.specs.Places.{table_length}
use Rattle.table.specs.Lookup.{lies_on}
use Rattle.table.specs.Counting.{code_count}
use Rattle.replacing.specs.Replacing.{replaced_in}
use Rattle.first_table.specs.Marks.{is_bad_spare, is_bad_home, bad_spares, bad_homes, good_spares, marked}

-- blocks replaced one after another, in the order given
unfoldable pub replaced_all : Drive → List ℕ → List ℕ → List ℕ
replaced_all drive t [] = t
replaced_all drive t (b ∷ blocks) = replaced_all drive (replaced_in drive t b) blocks

-- the first table: once the bad spares are marked, each bad home is given a spare, the lowest block first
abbrev pub first_table : Drive → List ℕ → List ℕ
first_table drive list = replaced_all drive (marked drive list) (bad_homes drive list)

-- more bad home blocks than good spares, and not as many, are refused
abbrev pub spare_fault : Drive → List ℕ → ℕ
spare_fault drive list = refuse (ltb (good_spares drive list) (length (bad_homes drive list))) no_spare

-- checks 1, list, 7, 13
abbrev pub first_table_fault : Shape → ℕ → List ℕ → List ℕ → ℕ
first_table_fault shape r list room =
    drive_fault shape r
    or_else list_fault (size_of shape) list
    or_else refuse (ltb (length room) (table_length (drive_of shape r))) no_room
    or_else spare_fault (drive_of shape r) list

-- exactly when 1, 2, 3, 4, 7 and 13 are given for a first table
abbrev pub FirstTableJudged : Shape → ℕ → List ℕ → List ℕ → ℕ → Type 0
FirstTableJudged shape r list room =
    DriveJudged shape r
    and_then ListJudged (size_of shape) list
    and_then When no_room (NoRoom (table_length (drive_of shape r)) room)
    and_then When no_spare (good_spares (drive_of shape r) list < length (bad_homes (drive_of shape r) list))

-- a block lies on a spare that is not bad
pub record OnGoodSpare (drive : Drive) (list t : List ℕ) (b : ℕ) : Type 0 where
  pub place : ℕ
  pub is-spare : place < drive.spares
  pub good : is_bad_spare drive list place ≡ false
  pub lies : lies_on drive t b ≡ spare_sector drive place

-- what a first table is: it breaks no rule, every bad home block lies on a good spare and every other block at home, exactly the bad spares are unusable, a count of that code finds as many, and so many spares are left free
pub record IsFirstTable (drive : Drive) (list t : List ℕ) : Type 0 where
  pub breaks-none : Breaks drive t → ⊥
  pub bad-homes-spared : (b : ℕ) → b < drive.blocks → is_bad_home drive list b ≡ true → OnGoodSpare drive list t b
  pub others-at-home : (b : ℕ) → is_bad_home drive list b ≡ false → lies_on drive t b ≡ home_sector drive b
  pub bad-unusable : (q : ℕ) → q < drive.spares → is_bad_spare drive list q ≡ true → code_of (get_or t q 0) ≡ unusable
  pub unusable-bad : (q : ℕ) → q < length t → code_of (get_or t q 0) ≡ unusable → (q < drive.spares) × (is_bad_spare drive list q ≡ true)
  pub unusable-count : code_count t unusable ≡ bad_spares drive list
  pub free-left : code_count t free ≡ good_spares drive list - length (bad_homes drive list)
