-- Document 01, "Format": the eight rows as one table, read by option number.
use Rattle.std.specs.Prelude.{ℕ, ◌+◌, Bool, List, [], ◌∷◌, get_or}
use Rattle.paper.specs.Checks.{pick}

-- what the supplied list is in
abbrev pub none : ℕ
none = 0

abbrev pub in_blocks : ℕ
in_blocks = 1

abbrev pub in_sectors : ℕ
in_sectors = 2

-- what becomes of the grown list
abbrev pub keep : ℕ
keep = 0

abbrev pub add : ℕ
add = 1

abbrev pub clear : ℕ
clear = 2

abbrev pub replace : ℕ
replace = 3

-- the new space, where it is not a space's number
abbrev pub as_before : ℕ
as_before = 4

-- the option number of its three bits: CMPLST counts 4, DPRY 2 and DFCT 1
abbrev pub option_of : Bool → Bool → Bool → ℕ
option_of cmplst dpry dfct = pick cmplst 4 0 + pick dpry 2 0 + pick dfct 1 0

-- option by option: what the list is in, the new grown list, the new space
abbrev pub option_rows : List (List ℕ)
option_rows =
    (none ∷ keep ∷ as_before ∷ [])
    ∷ (in_blocks ∷ add ∷ 3 ∷ [])
    ∷ (none ∷ keep ∷ 2 ∷ [])
    ∷ (in_blocks ∷ add ∷ 2 ∷ [])
    ∷ (none ∷ clear ∷ 1 ∷ [])
    ∷ (in_sectors ∷ replace ∷ 3 ∷ [])
    ∷ (none ∷ clear ∷ 0 ∷ [])
    ∷ (in_sectors ∷ replace ∷ 2 ∷ [])
    ∷ []

-- a cell of an option's row
abbrev pub cell : ℕ → ℕ → ℕ
cell option column = get_or (get_or option_rows option []) column 0

abbrev pub meaning : ℕ → ℕ
meaning option = cell option 0

abbrev pub grown_by : ℕ → ℕ
grown_by option = cell option 1

abbrev pub space_by : ℕ → ℕ
space_by option = cell option 2
