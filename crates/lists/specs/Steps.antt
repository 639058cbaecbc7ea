-- For the code alone: no sentence of the paper needs it.
-- The bound of one entry, and one step along the union of two lists.
use Rattle.std.specs.Prelude.{ℕ, ◌+◌, ◌<◌, ◌≤◌, ◌≡◌, List, ◌∷◌, leb, length, drop}
use Rattle.paper.specs.Checks.{refuse}
use Rattle.paper.specs.Refusals.{outside}
use Rattle.lists.specs.Union.{union}
use Rattle.lists.specs.declared.Taken.{Taken}

-- 4 for an entry that is no unit of its space
abbrev pub bound_fault : ℕ → ℕ → ℕ
bound_fault n entry = refuse (leb n entry) outside

-- what is left of the union is the entry taken, and then what is left of it after that step
pub record Takes (a b : List ℕ) (i j : ℕ) (result : Taken) : Type 0 where
  pub within-left : result.left ≤ length a
  pub within-right : result.right ≤ length b
  pub onward : i + j < result.left + result.right
  pub next : union (drop i a) (drop j b) ≡ result.entry ∷ union (drop result.left a) (drop result.right b)
