-- For the code alone: no sentence of the paper needs it.
-- The test that no free place comes before a block's place: what comes before it is a run of places, or two, and no place of a run is free exactly where the next free place is not.
use Rattle.std.specs.Prelude.{ℕ, ◌+◌, ◌-◌, ◌<◌, ◌≤◌, ◌≡◌, Bool, true, false, not, ◌&&◌, ◌||◌, List, ltb, leb, length, get_or}
use Rattle.paper.specs.Checks.{pick}
use Rattle.paper.specs.Limits.{table_block, spares_most}
use Rattle.seek.specs.Search.{first_or, rising}
use Rattle.layout.specs.declared.Drive.{Drive}
use Rattle.layout.specs.Descriptors.{number_of, primary, is_allocated}
use Rattle.order.specs.Order.{block_start, is_free, free_at}

-- the next free place at or after a place, or the table's length where there is none
abbrev pub next_free : List ℕ → ℕ → ℕ
next_free t from = first_or (length t) (free_at t) (rising from (length t - from))

-- scratch tells it for each of the first places
abbrev pub Filled : List ℕ → ℕ → List ℕ → Type 0
Filled t count scratch = (q : ℕ) → q < count → get_or scratch q 0 ≡ next_free t q

-- no place from one up to another is free
abbrev pub none_free : List ℕ → ℕ → ℕ → Bool
none_free t from to = leb to (next_free t from)

-- before a place on the primary's left comes what lies nearer, and the place as far to the right where the table block has one: up to here
abbrev pub left_end : ℕ → ℕ → ℕ
left_end p q = pick (leb (block_start p + table_block) (p + (p - q))) (block_start p + table_block) (p + (p - q) + 1)

-- before a place on its right comes what lies nearer: from here on
abbrev pub right_start : ℕ → ℕ → ℕ
right_start p q = pick (ltb (p - block_start p) (q - p)) (block_start p) (p + 1 - (q - p))

-- no free place comes before place q in the search order of primary p
abbrev pub clear_before : List ℕ → ℕ → ℕ → Bool
clear_before t p q =
    pick (ltb q (block_start p))
    (none_free t (block_start p) (length t) && none_free t 0 q)
    (pick (leb (block_start p + table_block) q)
    (none_free t (block_start p) q)
    (pick (ltb q p)
    (none_free t (q + 1) (left_end p q))
    (none_free t (right_start p q) q)))

-- none comes before the place of the block that a place names, where it names one
abbrev pub clear_way : Drive → List ℕ → ℕ → Bool
clear_way drive t q = not (is_allocated (get_or t q 0)) || clear_before t (primary drive (number_of (get_or t q 0))) q

-- what is asked of a table here: it has a place for each spare and is short, each number that it names is a home block, and none of its places beyond the spares is free
pub record Numbered (drive : Drive) (t : List ℕ) : Type 0 where
  pub spares-in : drive.spares ≤ length t
  pub short : length t ≤ spares_most
  pub homes : (q : ℕ) → q < length t → is_allocated (get_or t q 0) ≡ true → number_of (get_or t q 0) < drive.blocks
  pub tail : (q : ℕ) → drive.spares ≤ q → q < length t → is_free (get_or t q 0) ≡ false
