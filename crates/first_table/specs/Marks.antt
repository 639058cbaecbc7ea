-- Document 01, "Descriptors and spares": what a list of bad sectors says of homes and spares, and the table that a first table starts from, before any block is replaced.
use Rattle.std.specs.Prelude.{ℕ, ◌-◌, Bool, List, [], ◌∷◌, map, leb}
use Rattle.paper.specs.Checks.{pick}
use Rattle.seek.specs.Count.{count_below}
use Rattle.seek.specs.Search.{rising}
use Rattle.lists.specs.Union.{is_in}
use Rattle.layout.specs.declared.Drive.{Drive}
use Rattle.layout.specs.Layouts.{home_sector, spare_sector}
use Rattle.layout.specs.Descriptors.{free, unusable, null, word_of}
use Rattle.table.specs.Places.{table_length}

-- the members of a list that pass a test, in the list's order
unfoldable pub passing : (ℕ → Bool) → List ℕ → List ℕ
passing test [] = []
passing test (x ∷ xs) = pick (test x) (x ∷ passing test xs) (passing test xs)

-- a spare, or a home block, is bad where its sector is in the list
abbrev pub is_bad_spare : Drive → List ℕ → ℕ → Bool
is_bad_spare drive list q = is_in list (spare_sector drive q)

abbrev pub is_bad_home : Drive → List ℕ → ℕ → Bool
is_bad_home drive list b = is_in list (home_sector drive b)

-- how many spares are bad
unfoldable pub bad_spares : Drive → List ℕ → ℕ
bad_spares drive list = count_below (is_bad_spare drive list) drive.spares

-- the bad home blocks, rising
unfoldable pub bad_homes : Drive → List ℕ → List ℕ
bad_homes drive list = passing (is_bad_home drive list) (rising 0 drive.blocks)

-- how many spares are left for them
abbrev pub good_spares : Drive → List ℕ → ℕ
good_spares drive list = drive.spares - bad_spares drive list

-- the descriptor of a place before any block is replaced: null beyond the spares, a bad spare unusable, any other free
abbrev pub marked_word : Drive → List ℕ → ℕ → ℕ
marked_word drive list q = pick (leb drive.spares q) (word_of null 0) (pick (is_bad_spare drive list q) (word_of unusable 0) (word_of free 0))

-- the table before any block is replaced
unfoldable pub marked : Drive → List ℕ → List ℕ
marked drive list = map (marked_word drive list) (rising 0 (table_length drive))
