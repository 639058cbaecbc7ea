-- For the code alone: no sentence of the paper needs it.
-- The bits of a 32-bit number.
use Rattle.std.specs.Prelude.{ℕ, ◌/◌, ◌%◌, ◌^◌, Bool, eqb}
use Rattle.std.specs.Int.Bits.{bit_or}

abbrev pub number_bits : ℕ
number_bits = 32

-- bit k of a number is on
abbrev pub bit_at : ℕ → ℕ → Bool
bit_at number k = eqb (number / 2 ^ k % 2) 1

-- the number with bit k on
abbrev pub with_bit : ℕ → ℕ → ℕ
with_bit number k = bit_or number (2 ^ k)
