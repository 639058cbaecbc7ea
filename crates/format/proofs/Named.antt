-- Format at named inputs: the paper's night, a night after it and both as one, the same scan taken as sectors, and why the law is not claimed for option 1 in space 1.
-- Assumes nothing.
use Prim.Native.Nat.{ℕ, ◌≤◌}
use mathlib.Core.Path.{◌≡◌, refl}
use mathlib.Core.List.{List, [], ◌∷◌}
use lib.ListN.{length}
use borrow.Author.Tests.{le-ltb}
use Rattle.seek.specs.Count.{count_below}
use Rattle.seek.specs.Lowest.{first_below, fault_below}
use Rattle.lists.specs.Union.{is_in, into, union}
use Rattle.skip.specs.Skipping.{goods_before, place}
use Rattle.skip.specs.Translation.{blocks}
use Rattle.format.specs.Nights.{joined}
use Rattle.format.specs.Spaces.{list_of, new_grown, new_list, format_fault}

-- N 20, space 3, P 3, 7, G empty, option 1, D 3, 16: the new grown list is 4, 18, the new list 3, 4, 7, 18, and it is accepted where the rooms have place for them
pub scan-grown : new_grown 20 (3 ∷ 7 ∷ []) [] 3 1 (3 ∷ 16 ∷ []) ≡ 4 ∷ 18 ∷ []
unfolding count_below first_below is_in into union goods_before place
scan-grown = refl

pub scan-list : new_list 20 (3 ∷ 7 ∷ []) [] 3 1 (3 ∷ 16 ∷ []) ≡ 3 ∷ 4 ∷ 7 ∷ 18 ∷ []
unfolding count_below first_below is_in into union goods_before place
scan-list = refl

pub scan-accepted : (grown list : List ℕ) → 2 ≤ length grown → 4 ≤ length list → format_fault 20 (3 ∷ 7 ∷ []) [] 3 1 (3 ∷ 16 ∷ []) grown list ≡ 0
unfolding count_below first_below fault_below is_in into union goods_before place
scan-accepted grown list room fits = rw (le-ltb (length grown) 2 room, le-ltb (length list) 4 fits)

-- the night after it, D 3, 15: the new grown list is 4, 5, 18, 19, the new list 3, 4, 5, 7, 18, 19
pub next-grown : new_grown 20 (3 ∷ 7 ∷ []) (4 ∷ 18 ∷ []) 3 1 (3 ∷ 15 ∷ []) ≡ 4 ∷ 5 ∷ 18 ∷ 19 ∷ []
unfolding count_below first_below is_in into union goods_before place
next-grown = refl

pub next-list : new_list 20 (3 ∷ 7 ∷ []) (4 ∷ 18 ∷ []) 3 1 (3 ∷ 15 ∷ []) ≡ 3 ∷ 4 ∷ 5 ∷ 7 ∷ 18 ∷ 19 ∷ []
unfolding count_below first_below is_in into union goods_before place
next-list = refl

pub next-accepted : (grown list : List ℕ) → 4 ≤ length grown → 6 ≤ length list → format_fault 20 (3 ∷ 7 ∷ []) (4 ∷ 18 ∷ []) 3 1 (3 ∷ 15 ∷ []) grown list ≡ 0
unfolding count_below first_below fault_below is_in into union goods_before place
next-accepted grown list room fits = rw (le-ltb (length grown) 4 room, le-ltb (length list) 6 fits)

-- the first list joined to the second is 3, 4, 16, 17, and one night with it makes the same lists
pub both-named : joined (blocks 20 (list_of 3 (3 ∷ 7 ∷ []) [])) (3 ∷ 16 ∷ []) (3 ∷ 15 ∷ []) ≡ 3 ∷ 4 ∷ 16 ∷ 17 ∷ []
unfolding count_below first_below is_in into union goods_before place
both-named = refl

pub both-grown : new_grown 20 (3 ∷ 7 ∷ []) [] 3 1 (3 ∷ 4 ∷ 16 ∷ 17 ∷ []) ≡ 4 ∷ 5 ∷ 18 ∷ 19 ∷ []
unfolding count_below first_below is_in into union goods_before place
both-grown = refl

pub both-list : new_list 20 (3 ∷ 7 ∷ []) [] 3 1 (3 ∷ 4 ∷ 16 ∷ 17 ∷ []) ≡ 3 ∷ 4 ∷ 5 ∷ 7 ∷ 18 ∷ 19 ∷ []
unfolding count_below first_below is_in into union goods_before place
both-list = refl

pub both-accepted : (grown list : List ℕ) → 4 ≤ length grown → 6 ≤ length list → format_fault 20 (3 ∷ 7 ∷ []) [] 3 1 (3 ∷ 4 ∷ 16 ∷ 17 ∷ []) grown list ≡ 0
unfolding count_below first_below fault_below is_in into union goods_before place
both-accepted grown list room fits = rw (le-ltb (length grown) 4 room, le-ltb (length list) 6 fits)

-- the scan's numbers taken as sectors give another list: option 5 has D in sectors
pub scan-as-sectors : new_list 20 (3 ∷ 7 ∷ []) [] 3 5 (3 ∷ 16 ∷ []) ≡ 3 ∷ 7 ∷ 16 ∷ []
unfolding into union
scan-as-sectors = refl

-- option 1 in space 1 brings in all of G too: over 4 sectors with P 0 and G 1 and nothing named, new block 0 lies on 2, and the old map has it on 1
pub space-1-accepted : (grown list : List ℕ) → 1 ≤ length grown → 2 ≤ length list → format_fault 4 (0 ∷ []) (1 ∷ []) 1 1 [] grown list ≡ 0
unfolding count_below first_below fault_below is_in into union goods_before place
space-1-accepted grown list room fits = rw (le-ltb (length grown) 1 room, le-ltb (length list) 2 fits)

pub space-1-new : place (is_in (new_list 4 (0 ∷ []) (1 ∷ []) 1 1 [])) 4 0 ≡ 2
unfolding count_below first_below is_in into union goods_before place
space-1-new = refl

pub space-1-old : place (is_in (list_of 1 (0 ∷ []) (1 ∷ []))) 4 (place (is_in []) (blocks 4 (list_of 1 (0 ∷ []) (1 ∷ []))) 0) ≡ 1
unfolding count_below first_below is_in into union goods_before place
space-1-old = refl
