-- Document 01, "Descriptors and spares", and document 02, Q-7: the order in which the places of a table are searched for a block, and where a search stops.
use Rattle.std.specs.Prelude.{ℕ, zero, suc, ◌+◌, ◌-◌, ◌*◌, ◌/◌, ◌%◌, Bool, ◌||◌, List, [], ◌∷◌, ◌++◌, map, ltb, eqb, ℤ, pos, negsuc, ◌+ℤ◌, ◌-ℤ◌, length, get_or}
use Rattle.paper.specs.Checks.{pick}
use Rattle.paper.specs.Limits.{table_block}
use Rattle.seek.specs.Search.{first_or, rising}
use Rattle.layout.specs.Descriptors.{free, word_of, names}

-- the place of the table block at an offset; one outside 0 to 127 is passed
abbrev pub in_block : ℤ → List ℕ
in_block (pos i) = pick (ltb i table_block) (i ∷ []) []
in_block (negsuc i) = []

-- the places at distance k: o + k, then o − k
abbrev pub around : ℕ → ℕ → List ℕ
around o zero = in_block (pos o)
around o (suc k) = in_block (pos o +ℤ pos (suc k)) ++ in_block (pos o -ℤ pos (suc k))

-- the places at distances below a bound, nearest first
unfoldable pub outward : ℕ → ℕ → List ℕ
outward o zero = []
outward o (suc distance) = outward o distance ++ around o distance

-- a table block from offset o outward, at all distances
abbrev pub block_order : ℕ → List ℕ
block_order o = outward o table_block

-- where the table block of a place starts
abbrev pub block_start : ℕ → ℕ
block_start p = p / table_block * table_block

-- the search order of a table of so many places for the primary p: its table block outward, the blocks after it, then those before it, each rising
abbrev pub order : ℕ → ℕ → List ℕ
order places p =
    map (λ offset. block_start p + offset) (block_order (p % table_block))
    ++ (rising (block_start p + table_block) (places - (block_start p + table_block)) ++ rising 0 (block_start p))

-- a free descriptor has code 0 and carries number 0
abbrev pub is_free : ℕ → Bool
is_free word = eqb word (word_of free 0)

-- the descriptor at a place is free
abbrev pub free_at : List ℕ → ℕ → Bool
free_at t q = is_free (get_or t q 0)

-- the first free place in the search order of primary p, or the table's length where none is free
abbrev pub first_free : List ℕ → ℕ → ℕ
first_free t p = first_or (length t) (free_at t) (order (length t) p)

-- a search for a block stops at a descriptor that is free or names the block
abbrev pub stops : ℕ → ℕ → Bool
stops b word = is_free word || names word b

abbrev pub stops_at : List ℕ → ℕ → ℕ → Bool
stops_at t b q = stops b (get_or t q 0)

-- where a search for block b from the primary p stops, or the table's length where it stops nowhere
abbrev pub first_stop : List ℕ → ℕ → ℕ → ℕ
first_stop t b p = first_or (length t) (stops_at t b) (order (length t) p)
