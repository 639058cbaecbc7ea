-- The laws of a word of a code and a number: its parts are the code and the number, and it is made of its parts.
-- Assumes nothing.
use Prim.Native.Nat.{ℕ, ◌^◌, ◌<◌}
use mathlib.Core.Path.{◌≡◌}
use native.Mathlib.Nat.{div-add-mod'}
use native.Mathlib.Omega.{arith}
use lib.Arith.{digits_div, digits_mod}
use Rattle.words.specs.Coded.{code_unit, word_of, code_of, number_of}

-- the parts of a word that is made of a code and a number below the code's unit
pub code-of-word : (code number : ℕ) → number < code_unit → code_of (word_of code number) ≡ code
code-of-word code number fits = digits_div code fits

pub number-of-word : (code number : ℕ) → number < code_unit → number_of (word_of code number) ≡ number
number-of-word code number fits = digits_mod code fits

-- a word is made of its code and its number
pub word-of-parts : (word : ℕ) → word_of (code_of word) (number_of word) ≡ word
word-of-parts word = div-add-mod' word code_unit

-- the word of a code of four bits and a number of 28 has 32
pub word_fits : {code number : ℕ} → code < 16 → number < code_unit → word_of code number < 2 ^ 32
word_fits few fits = omega arith
