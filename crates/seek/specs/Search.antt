-- The first of a list that passes a test, in the list's own order, what stands before what in a list, and runs of rising numbers.
use Rattle.std.specs.Prelude.{ℕ, zero, suc, ◌≡◌, Bool}
use mathlib.Core.List.{List, [], ◌∷◌, ◌++◌, Memᴰ}
use Rattle.paper.specs.Checks.{pick}

-- the first of the list that passes, or the default where none does
unfoldable pub first_or : ℕ → (ℕ → Bool) → List ℕ → ℕ
first_or default passes [] = default
first_or default passes (x ∷ xs) = pick (passes x) x (first_or default passes xs)

-- q stands before p in a list: the list has a part before p that q is in
pub record Before (list : List ℕ) (q p : ℕ) : Type 0 where
  pub front : List ℕ
  pub back : List ℕ
  pub splits : list ≡ front ++ (p ∷ back)
  pub ahead : Memᴰ q front

-- so many numbers from the first on, each one more than the one before
unfoldable pub rising : ℕ → ℕ → List ℕ
rising first zero = []
rising first (suc count) = first ∷ rising (suc first) count
