-- The laws of descriptor words: the tests on words tell what they are named for. Those of a code and a number are passed on from `words`.
-- Assumes nothing.
use Prim.Native.Nat.{ℕ}
use mathlib.Core.Path.{◌≡◌, sym, ◌∙◌, ap}
use native.Mathlib.Omega.{arith}
use lib.Dec.{eqb}
use Rattle.paper.proofs.Rows.{Tells, tells-eq, tells_both, tells-either}
pub use Rattle.words.proofs.Coded.{code-of-word, number-of-word, word-of-parts}
use Rattle.layout.specs.Descriptors.{at_primary, elsewhere, word_of, code_of, number_of, Allocated, is_allocated, Names, names}

module _ (word : ℕ) where
  -- a word with number 0, by its parts
  pub tells-bare : (code : ℕ) → Tells (eqb word (word_of code 0)) ((code_of word ≡ code) × (number_of word ≡ 0))
  tells-bare code =
      record {
        holds = λ e. let same : word ≡ word_of code 0 = (tells-eq word (word_of code 0)).holds e in (ap code_of same ∙ code-of-word code 0 (omega arith), ap number_of same ∙ number-of-word code 0 (omega arith));
        told = λ parts. (tells-eq word (word_of code 0)).told (sym (word-of-parts word) ∙ rw (parts.0, parts.1));
      }

  pub tells-allocated : Tells (is_allocated word) (Allocated word)
  tells-allocated = tells-either (tells-eq (code_of word) at_primary) (tells-eq (code_of word) elsewhere)

  pub tells-names : (block : ℕ) → Tells (names word block) (Names word block)
  tells-names block = tells_both tells-allocated (tells-eq (number_of word) block)
