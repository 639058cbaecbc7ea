-- Conditions of the paper's table that several calls have: each stands here once, and the rows of the calls cite it.
use Rattle.std.specs.Prelude.{ℕ, ◌<◌, ◌≤◌, ◌≡◌, List, length}
use Rattle.paper.specs.Limits.{list_most}

-- row 2: a list has more entries than a list may have
abbrev pub TooLong : List ℕ → Type 0
TooLong list = list_most < length list

-- rows 4, 5 and 6: an entry, or a number that the caller names, is not below its bound
abbrev pub NotBelow : ℕ → ℕ → Type 0
NotBelow bound number = bound ≤ number

-- row 7: the lent room has fewer places than the result needs, or the scratch than there are spares
abbrev pub NoRoom : ℕ → List ℕ → Type 0
NoRoom needed room = length room < needed

-- row 14: what is lent has another length
abbrev pub OtherLength : ℕ → List ℕ → Type 0
OtherLength long lent = length lent ≡ long → ⊥
