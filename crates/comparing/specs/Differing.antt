-- At how many places two rows differ.
use Rattle.std.specs.Prelude.{ℕ, ◌+◌, List, [], ◌∷◌, length, eqb}
use Rattle.paper.specs.Checks.{pick}

-- what two numbers at one place add
abbrev pub unlike : ℕ → ℕ → ℕ
unlike x y = pick (eqb x y) 0 1

-- a place that one of the rows lacks differs too
unfoldable pub differing : List ℕ → List ℕ → ℕ
differing [] b = length b
differing (x ∷ a) [] = length (x ∷ a)
differing (x ∷ a) (y ∷ b) = unlike x y + differing a b
