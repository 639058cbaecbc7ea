-- Document 01, "Sector image": the 16-bit code of data, for any number of words, and the code that an image carries.
use Rattle.std.specs.Prelude.{ℕ, ◌+◌, ◌-◌, ◌*◌, ◌/◌, ◌%◌, ◌^◌, Bool, List, [], ◌∷◌}
use Rattle.std.specs.Int.Bits.{bit_xor}
use Rattle.paper.specs.Checks.{pick}
use Rattle.paper.specs.Limits.{start_code}
use Rattle.words.specs.Words.{be16}

-- the words of data, two bytes each; a last byte alone is none
unfoldable pub words_of : List ℕ → List ℕ
words_of [] = []
words_of (lone ∷ []) = []
words_of (hi ∷ lo ∷ bytes) = be16 hi lo ∷ words_of bytes

-- sixteen bits moved up by one, the highest of them to the lowest place
unfoldable pub rotated : ℕ → ℕ
rotated code = code * 2 % 2 ^ 16 + code / 2 ^ 15

-- the code after one word more: the code before it rotated, then the exclusive or with the word
unfoldable pub code_after : ℕ → ℕ → ℕ
code_after code word = bit_xor (rotated code) word

-- the code after all words of a list, from a code on
unfoldable pub code_from : ℕ → List ℕ → ℕ
code_from code [] = code
code_from code (word ∷ words) = code_from (code_after code word) words

-- the code of data: from the starting code on, after all its words
unfoldable pub data_code : List ℕ → ℕ
data_code bytes = code_from start_code (words_of bytes)

-- every one of the sixteen bits is the other one
abbrev pub complement : ℕ → ℕ
complement code = 0xffff - code

-- the code that an image carries: that of its data, or its complement where the data was bad when it was written
unfoldable pub carried : Bool → List ℕ → ℕ
carried forced bytes = pick forced (complement (data_code bytes)) (data_code bytes)
