-- The steps of a merge, over what is left of two lists: which entry goes next, and what is then left.
-- Assumes nothing.
use Prim.Native.Nat.{ℕ, ◌+◌, ◌<◌, ◌≤◌}
use mathlib.Core.Path.{◌≡◌}
use mathlib.Core.List.{List, [], ◌∷◌}
use lib.ListN.{length, get_or, drop}
use Rattle.seek.proofs.Drops.{drop-next, drop_past}
use Rattle.lists.specs.Union.{union}
use Rattle.lists.proofs.Unions.{union-none, union-nothing, union-less, union-same, union_more}

module _ (a b : List ℕ) (i j : ℕ) where
  -- nothing is left
  pub step-ends : length a ≤ i → length b ≤ j → union (drop i a) (drop j b) ≡ []
  step-ends past-a past-b = rw (drop_past a i past-a, drop_past b j past-b) (union-none [])

  -- one list has ended
  pub step_right : length a ≤ i → j < length b → union (drop i a) (drop j b) ≡ get_or b j 0 ∷ union (drop i a) (drop (j + 1) b)
  step_right past h =
      rw (drop_past a i past, union-none (drop j b), union-none (drop (j + 1) b)) (drop-next b j h)

  pub step_left : i < length a → length b ≤ j → union (drop i a) (drop j b) ≡ get_or a i 0 ∷ union (drop (i + 1) a) (drop j b)
  step_left h past =
      rw (drop_past b j past, union-nothing (drop i a), union-nothing (drop (i + 1) a)) (drop-next a i h)

  -- both go on
  module _ (within_a : i < length a) (within_b : j < length b) where
    pub step_less : get_or a i 0 < get_or b j 0 → union (drop i a) (drop j b) ≡ get_or a i 0 ∷ union (drop (i + 1) a) (drop j b)
    step_less h = rw (drop-next a i within_a, drop-next b j within_b) (union-less (get_or a i 0) (drop (i + 1) a) (get_or b j 0) (drop (j + 1) b) h)

    pub step_same : get_or a i 0 ≡ get_or b j 0 → union (drop i a) (drop j b) ≡ get_or a i 0 ∷ union (drop (i + 1) a) (drop (j + 1) b)
    step_same e = rw (drop-next a i within_a, drop-next b j within_b) (union-same (get_or a i 0) (drop (i + 1) a) (get_or b j 0) (drop (j + 1) b) e)

    pub step-more : get_or b j 0 < get_or a i 0 → union (drop i a) (drop j b) ≡ get_or b j 0 ∷ union (drop i a) (drop (j + 1) b)
    step-more h = rw (drop-next a i within_a, drop-next b j within_b) (union_more (get_or a i 0) (drop (i + 1) a) (get_or b j 0) (drop (j + 1) b) h)
