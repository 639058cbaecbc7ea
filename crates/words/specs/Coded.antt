-- Document 01, "Descriptors and spares", and document 02, Q-4: the word of a code and a number. A descriptor is such a word, and so is the number of a header.
use Rattle.std.specs.Prelude.{ℕ, ◌+◌, ◌*◌, ◌/◌, ◌%◌}

-- 2²⁸: the low 28 bits of a word are its number
abbrev pub code_unit : ℕ
code_unit = 268435456

-- the word of a code and a number
abbrev pub word_of : ℕ → ℕ → ℕ
word_of code number = code * code_unit + number

-- the top four bits
abbrev pub code_of : ℕ → ℕ
code_of word = word / code_unit

-- the low 28 bits
abbrev pub number_of : ℕ → ℕ
number_of word = word % code_unit

-- the codes that descriptors and headers share: a block that is replaced at its primary, and one that is replaced elsewhere
abbrev pub at_primary : ℕ
at_primary = 2

abbrev pub elsewhere : ℕ
elsewhere = 3
