-- The union of two lists, each entry once. An entry is in a list by a test.
use Rattle.std.specs.Prelude.{ℕ, ◌≡◌, Bool, false, ◌||◌, List, [], ◌∷◌, eqb, ltb}
use Rattle.paper.specs.Checks.{pick}
use Rattle.lists.specs.Proper.{Rising}

-- whether a number is an entry of a list
unfoldable pub is_in : List ℕ → ℕ → Bool
is_in [] s = false
is_in (x ∷ a) s = eqb x s || is_in a s

-- the entry x and then the rest of its list, merged into a list: the smaller goes first, equals go once
unfoldable pub into : ℕ → (List ℕ → List ℕ) → List ℕ → List ℕ
into x rest [] = x ∷ rest []
into x rest (y ∷ b) = pick (ltb x y) (x ∷ rest (y ∷ b)) (pick (eqb x y) (x ∷ rest b) (y ∷ into x rest b))

-- the union of two rising lists, each entry once
unfoldable pub union : List ℕ → List ℕ → List ℕ
union [] b = b
union (x ∷ a) b = into x (union a) b

-- what the union of two lists is: it rises, and an entry is in it exactly where it is in one of them
pub record Unites (a b u : List ℕ) : Type 0 where
  pub rises : Rising u
  pub members : (s : ℕ) → is_in u s ≡ (is_in a s || is_in b s)
