-- Lists of numbers that are each below a bound: 256 makes them bytes.
-- Assumes nothing.
use Prim.Native.Nat.{ℕ, ◌<◌, ◌^◌}
use mathlib.Core.List.{List}
use lib.ListN.{get_or}

-- each number of a list is below a bound
abbrev pub Below : ℕ → List ℕ → Type 0
Below bound list = (k : ℕ) → get_or list k 0 < bound

-- a list of numbers that four bytes hold
abbrev pub Fits32 : List ℕ → Type 0
Fits32 list = Below (2 ^ 32) list
