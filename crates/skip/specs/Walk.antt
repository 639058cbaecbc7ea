-- Document 01, "Skipping": the walk along a list, and the entries below a sector.
use Rattle.std.specs.Prelude.{ℕ, suc, ◌+◌, List, [], ◌∷◌, leb, ltb}
use Rattle.paper.specs.Checks.{pick, one_if}

-- how many entries the walk passes from an address on: an entry that is at most the address is passed and adds one to it, and then the next entry is looked at
unfoldable pub passes : List ℕ → ℕ → ℕ
passes [] address = 0
passes (x ∷ a) address = pick (leb x address) (suc (passes a (suc address))) 0

-- where the walk ends that starts with the address equal to b
abbrev pub walked : List ℕ → ℕ → ℕ
walked a b = b + passes a b

-- how many entries lie below a sector
unfoldable pub entries_below : List ℕ → ℕ → ℕ
entries_below [] s = 0
entries_below (x ∷ a) s = entries_below a s + one_if (ltb x s)
