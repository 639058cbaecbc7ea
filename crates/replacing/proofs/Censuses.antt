-- What a descriptor that is stored at a free place does to a census: one free place less, and every code but its own and free as it was.
-- Assumes nothing.
use Prim.Native.Nat.{ℕ, ◌+◌, ◌<◌}
use mathlib.Core.Path.{◌≡◌, sym, ◌∙◌, ap}
use mathlib.Core.Bool.{false}
use mathlib.Core.List.{List}
use native.Mathlib.Omega.{arith}
use lib.Dec.{eqb}
use lib.ListN.{length, get_or, set}
use borrow.Author.Tests.{ne_eqb}
use Rattle.paper.specs.Checks.{pick}
use Rattle.paper.proofs.Cases.{by_bool}
use Rattle.layout.specs.declared.Drive.{Drive}
use Rattle.layout.specs.Steps.{Laid}
use Rattle.layout.specs.Descriptors.{free, code_of, primary}
use Rattle.layout.proofs.Sectors.{blocks-few}
use Rattle.layout.proofs.Words.{code-of-word}
use Rattle.table.specs.Places.{code_at}
use Rattle.table.specs.Counting.{code_count}
use Rattle.table.proofs.Censuses.{count_set}
use Rattle.replacing.specs.Replacing.{descriptor_at}

-- the descriptor of a block, stored at a free place
module _ {drive : Drive} (laid : Laid drive) (t : List ℕ) {b : ℕ} (below : b < drive.blocks) {q : ℕ} (h : q < length t) (was_free : code_of (get_or t q 0) ≡ free) where
  stored-code : code_of (descriptor_at drive q b) ≡ code_at drive q b
  stored-code = code-of-word (code_at drive q b) b (omega (arith, blocks-few laid))

  code-set : (code : ℕ) → code_count (set t q (descriptor_at drive q b)) code + pick (eqb free code) 1 0 ≡ code_count t code + pick (eqb (code_at drive q b) code) 1 0
  code-set code =
      ap (λ (old : ℕ). code_count (set t q (descriptor_at drive q b)) code + pick (eqb old code) 1 0) (sym was_free)
      ∙ count_set t q (descriptor_at drive q b) code h
      ∙ ap (λ (new : ℕ). code_count t code + pick (eqb new code) 1 0) stored-code

  -- an allocated descriptor is not free
  not_free : eqb (code_at drive q b) free ≡ false
  not_free = by_bool (eqb q (primary drive b)) (λ e. rw e) (λ e. rw e)

  -- there is one free place less
  pub free-less : code_count (set t q (descriptor_at drive q b)) free + 1 ≡ code_count t free
  free-less = omega (arith, rw not_free at (code-set free))

  -- and every code but that of the stored descriptor is counted as it was
  pub others-counted :
      (code : ℕ) → (code ≡ free → ⊥) → (code ≡ code_at drive q b → ⊥) → code_count (set t q (descriptor_at drive q b)) code ≡ code_count t code
  others-counted code used apart =
      omega (arith, rw (ne_eqb free code (λ e. used (sym e)), ne_eqb (code_at drive q b) code (λ e. apart (sym e))) at (code-set code))
