-- For the code alone: no sentence of the paper needs it.
-- The outward search of a table block, turn by turn, and what a search answers.
use Rattle.std.specs.Prelude.{ℕ, ◌+◌, ◌-◌, ◌*◌, ◌/◌, ◌%◌, ◌<◌, ◌≡◌, ltb, eqb, ℤ, pos, negsuc, neg_ℤ, Option, Some, None}
use Rattle.paper.specs.Checks.{pick}
use Rattle.paper.specs.Limits.{table_block}

-- how many offsets the search tries: 0, and each distance below the block's length to both sides
abbrev pub turns : ℕ
turns = 2 * table_block - 1

-- the offset that a turn tries: 0, +1, −1, +2, −2 and so on
abbrev pub offset_of : ℕ → ℤ
offset_of turn = pick (eqb (turn % 2) 0) (neg_ℤ (pos ((turn + 1) / 2))) (pos ((turn + 1) / 2))

-- an offset as a place of the table block, or the block's length where it lies outside the block
abbrev pub place_in : ℤ → ℕ
place_in (pos i) = pick (ltb i table_block) i table_block
place_in (negsuc i) = table_block

-- a search answers the place where it stops, or none where it stops at no place below the bound
abbrev pub Finds : ℕ → ℕ → Option ℕ → Type 0
Finds bound stop (Some place) = (place ≡ stop) × (place < bound)
Finds bound stop None = stop ≡ bound
