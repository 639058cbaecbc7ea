-- The search order at both ends of a table block and across the blocks of a table, by computation.
-- Assumes nothing.
use mathlib.Core.Path.{◌≡◌, refl}
use mathlib.Core.List.{[], ◌∷◌}
use lib.IntN.{pos, negsuc, ◌+ℤ◌}
use lib.ListN.{take, drop}
use Rattle.seek.specs.Search.{rising}
use Rattle.order.specs.Order.{in_block, outward, block_order, order}
use Rattle.order.specs.Steps.{offset_of}

-- the first turns and the last two: 0, +1, −1, and +127, −127
pub offsets :
    (offset_of 0 ≡ pos 0) × (offset_of 1 ≡ pos 1) × (offset_of 2 ≡ negsuc 0) × (offset_of 253 ≡ pos 127) × (offset_of 254 ≡ negsuc 126)
offsets = (refl, refl, refl, refl, refl)

-- one step beyond either end lies outside, and the longest steps lead from end to end
pub ends :
    (in_block (pos 0 +ℤ negsuc 0) ≡ [])
    × (in_block (pos 127 +ℤ pos 1) ≡ [])
    × (in_block (pos 0 +ℤ pos 127) ≡ 127 ∷ [])
    × (in_block (pos 127 +ℤ negsuc 126) ≡ 0 ∷ [])
ends = (refl, refl, refl, refl)

pub from_first : take 3 (block_order 0) ≡ 0 ∷ 1 ∷ 2 ∷ []
unfolding outward
from_first = refl

pub from_last : take 3 (block_order 127) ≡ 127 ∷ 126 ∷ 125 ∷ []
unfolding outward
from_last = refl

-- the left side is left after one step, and the right side goes on
pub from_second : take 5 (block_order 1) ≡ 1 ∷ 2 ∷ 0 ∷ 3 ∷ 4 ∷ []
unfolding outward
from_second = refl

-- three blocks, primary in the middle one: after it the last block, then the first
pub across : take 2 (drop 127 (order 384 200)) ≡ 128 ∷ 256 ∷ []
unfolding outward rising
across = refl

pub round : take 2 (drop 255 (order 384 200)) ≡ 383 ∷ 0 ∷ []
unfolding outward rising
round = refl
