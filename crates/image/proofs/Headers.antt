-- What the number of a header says: the word of a code and a block that a header may carry says them, and it alone.
-- Assumes nothing.
use Prim.Native.Nat.{ℕ, ◌<◌}
use mathlib.Core.Path.{◌≡◌, refl, sym, ◌∙◌}
use mathlib.Core.Logic.{⊎_elim}
use native.Mathlib.Nat.{mod-lt}
use native.Mathlib.Omega.{arith}
use Rattle.paper.proofs.Rows.{Tells, tells-lt, tells-eq, tells_both, tells-either}
use Rattle.words.specs.Coded.{code_unit, word_of, code_of, number_of, at_primary, elsewhere}
use Rattle.words.proofs.Coded.{code-of-word, number-of-word, word-of-parts}
use Rattle.image.specs.Header.{at_home, Known, is_known, Says, may_head}

pub tells-known : (code : ℕ) → Tells (is_known code) (Known code)
tells-known code = tells-either (tells-eq code at_home) (tells-either (tells-eq code at_primary) (tells-eq code elsewhere))

pub tells-may-head : (code block : ℕ) → Tells (may_head code block) (Known code × (block < code_unit))
tells-may-head code block = tells_both (tells-known code) (tells-lt block code_unit)

-- the three codes have four bits
pub known-few : {code : ℕ} → Known code → code < 16
known-few known = ⊎_elim (λ e. omega arith) (⊎_elim (λ e. omega arith) (λ e. omega arith)) known

-- the word of one of them and a block says the two
pub word-says : {code block : ℕ} → Known code → block < code_unit → Says (word_of code block) code block
word-says {code} {block} known below =
    record { known = known; code_is = code-of-word code block below; block-is = number-of-word code block below }

module _ {number code block : ℕ} (says : Says number code block) where
  -- and no other number does
  pub says-word : number ≡ word_of code block
  says-word = sym (word-of-parts number) ∙ rw (says.code_is, says.block-is)

  pub says-below : block < code_unit
  says-below = let some : 0 < code_unit = omega arith in rw says.block-is at (mod-lt number some)

-- a number with one of the three codes says that code and its own block
pub says-own : {number : ℕ} → Known (code_of number) → Says number (code_of number) (number_of number)
says-own known = record { known = known; code_is = refl; block-is = refl }
