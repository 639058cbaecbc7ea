-- Document 02, Q-4: what the number of a header says. It is a word: the top four bits are a code, which tells where the block is, and the low 28 the block.
use Rattle.std.specs.Prelude.{ℕ, ◌≡◌, Bool, ◌&&◌, ◌||◌, ◌⊎◌, eqb, ltb}
use Rattle.words.specs.Coded.{code_unit, code_of, number_of, at_primary, elsewhere}

-- the code of a block that is at home
abbrev pub at_home : ℕ
at_home = 0

-- the three codes of a header: at home, replaced at its primary, replaced elsewhere
abbrev pub Known : ℕ → Type 0
Known code = (code ≡ at_home) ⊎ ((code ≡ at_primary) ⊎ (code ≡ elsewhere))

abbrev pub is_known : ℕ → Bool
is_known code = eqb code at_home || (eqb code at_primary || eqb code elsewhere)

-- the number of a header says this code and this block, and the code is one of the three
pub record Says (number code block : ℕ) : Type 0 where
  pub known : Known code
  pub code_is : code_of number ≡ code
  pub block-is : number_of number ≡ block

-- some number says the pair
abbrev pub may_head : ℕ → ℕ → Bool
may_head code block = is_known code && ltb block code_unit
