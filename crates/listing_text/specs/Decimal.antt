-- A number as decimal text, without leading zeros.
use Rattle.std.specs.Prelude.{ℕ, zero, suc, ◌+◌, ◌/◌, ◌%◌, List, [], ◌∷◌, ◌++◌, ltb}
use Rattle.paper.specs.Checks.{pick}

-- the byte of the digit 0; the others follow it
abbrev pub digit_zero : ℕ
digit_zero = 48

abbrev pub digit : ℕ → ℕ
digit d = digit_zero + d

-- the digits of a number, the most significant first; each step takes one
unfoldable pub digits_in : ℕ → ℕ → List ℕ
digits_in zero n = []
digits_in (suc steps) n = pick (ltb n 10) (digit n ∷ []) (digits_in steps (n / 10) ++ (digit (n % 10) ∷ []))

-- the decimal text of a number, which has fewer digits than the steps allow
unfoldable pub decimal : ℕ → List ℕ
decimal n = digits_in (suc n) n
