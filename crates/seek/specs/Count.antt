-- How many numbers below a bound pass a test, and how often a number stands in a list.
use Rattle.std.specs.Prelude.{ℕ, zero, suc, ◌+◌, Bool, List, [], ◌∷◌, eqb}
use Rattle.paper.specs.Checks.{one_if}

unfoldable pub count_below : (ℕ → Bool) → ℕ → ℕ
count_below passes zero = 0
count_below passes (suc n) = count_below passes n + one_if (passes n)

-- how many times a number stands in a list
unfoldable pub times : ℕ → List ℕ → ℕ
times number [] = 0
times number (x ∷ xs) = one_if (eqb x number) + times number xs
