-- Words: numbers of two and four bytes, the most significant byte first, alone, at a place of a list of bytes, and in a run.
use Rattle.std.specs.Prelude.{ℕ, zero, suc, ◌+◌, ◌*◌, ◌/◌, ◌%◌, ◌<◌, List, [], ◌∷◌, ◌++◌, get_or}

-- the number of two bytes
abbrev pub be16 : ℕ → ℕ → ℕ
be16 hi lo = hi * 256 + lo

-- the number of four bytes
abbrev pub be32 : ℕ → ℕ → ℕ → ℕ → ℕ
be32 a b c d = ((a * 256 + b) * 256 + c) * 256 + d

-- the two bytes of a number
unfoldable pub bytes16 : ℕ → List ℕ
bytes16 n = n / 256 % 256 ∷ n % 256 ∷ []

-- the four bytes of a number
unfoldable pub bytes32 : ℕ → List ℕ
bytes32 n = n / 16777216 % 256 ∷ n / 65536 % 256 ∷ n / 256 % 256 ∷ n % 256 ∷ []

-- the number that stands in the two bytes at a place
unfoldable pub word16_at : List ℕ → ℕ → ℕ
word16_at bytes at = be16 (get_or bytes at 0) (get_or bytes (at + 1) 0)

-- the number that stands in the four bytes at a place
unfoldable pub word32_at : List ℕ → ℕ → ℕ
word32_at bytes at = be32 (get_or bytes at 0) (get_or bytes (at + 1) 0) (get_or bytes (at + 2) 0) (get_or bytes (at + 3) 0)

-- so many numbers from a place on, each in four bytes
unfoldable pub entries_at : List ℕ → ℕ → ℕ → List ℕ
entries_at bytes at zero = []
entries_at bytes at (suc count) = word32_at bytes at ∷ entries_at bytes (at + 4) count

-- the bytes of a list of numbers, four for each
unfoldable pub bytes_of : List ℕ → List ℕ
bytes_of [] = []
bytes_of (n ∷ list) = bytes32 n ++ bytes_of list

-- a list of bytes: each number is below 256
abbrev pub Bytes : List ℕ → Type 0
Bytes list = (k : ℕ) → get_or list k 0 < 256
