-- Document 01, "Descriptors and spares", and document 02, Q-7: the place that names a block, where the search for a block stops, where a block lies, and what lies on a sector.
use Rattle.std.specs.Prelude.{ℕ, ◌<◌, ◌≡◌, Bool, List, ltb, length, get_or, Option, Some, None}
use Rattle.paper.specs.Checks.{pick}
use Rattle.seek.specs.Lowest.{first_below}
use Rattle.layout.specs.declared.Drive.{Drive}
use Rattle.layout.specs.Layouts.{home_sector, spare_sector}
use Rattle.layout.specs.Sides.{is_home, block_of_home, place_of_spare}
use Rattle.layout.specs.Descriptors.{number_of, primary, Allocated, is_allocated, Names, names}
use Rattle.order.specs.Order.{first_stop}

-- the place that names the block, or the table's length where none does
unfoldable pub place_of : List ℕ → ℕ → ℕ
place_of t b = first_below (λ q. names (get_or t q 0) b) (length t)

-- where a search for block b stops: at the first place of its search order that is free or names it
abbrev pub stop_of : Drive → List ℕ → ℕ → ℕ
stop_of drive t b = first_stop t b (primary drive b)

-- for every allocated place, the search for its block stops right there
abbrev pub StopsThere : Drive → List ℕ → Type 0
StopsThere drive t = (p : ℕ) → p < length t → Allocated (get_or t p 0) → stop_of drive t (number_of (get_or t p 0)) ≡ p

-- a block is replaced: a place of the table names it
pub record Replaced (t : List ℕ) (b : ℕ) : Type 0 where
  pub place : ℕ
  pub in_table : place < length t
  pub named : Names (get_or t place 0) b

abbrev pub is_replaced : List ℕ → ℕ → Bool
is_replaced t b = ltb (place_of t b) (length t)

-- block b lies on sector s: on the spare that names it, else at home
pub data Resides (drive : Drive) (t : List ℕ) (b s : ℕ) : Type 0 where
  at-home : (Replaced t b → ⊥) → s ≡ home_sector drive b → Resides drive t b s
  on-spare : (q : ℕ) → q < length t → Names (get_or t q 0) b → s ≡ spare_sector drive q → Resides drive t b s

-- the sector that a block lies on
abbrev pub lies_on : Drive → List ℕ → ℕ → ℕ
lies_on drive t b = pick (is_replaced t b) (spare_sector drive (place_of t b)) (home_sector drive b)

-- no block lies on sector s: it is the home of a replaced block, or a spare that is not allocated
pub data Vacant (drive : Drive) (t : List ℕ) (s : ℕ) : Type 0 where
  home-left : (b : ℕ) → b < drive.blocks → s ≡ home_sector drive b → Replaced t b → Vacant drive t s
  spare-unused : (q : ℕ) → q < drive.spares → s ≡ spare_sector drive q → (Allocated (get_or t q 0) → ⊥) → Vacant drive t s

-- the block that lies on the home of block b, or none where b is replaced
abbrev pub block_at_home : List ℕ → ℕ → Option ℕ
block_at_home t b = pick (is_replaced t b) None (Some b)

-- the block that lies on spare q, or none where it is not allocated
abbrev pub block_on_spare : List ℕ → ℕ → Option ℕ
block_on_spare t q = pick (is_allocated (get_or t q 0)) (Some (number_of (get_or t q 0))) None

-- the block that lies on a sector, or none
abbrev pub lying_on : Drive → List ℕ → ℕ → Option ℕ
lying_on drive t s = pick (is_home drive s) (block_at_home t (block_of_home drive s)) (block_on_spare t (place_of_spare drive s))
