-- The mode is refused exactly by its rows, and answered exactly where some copy says the size and no earlier one says any.
-- Assumes nothing.
use Prim.Native.Nat.{ℕ, ◌*◌, ◌<◌}
use mathlib.Core.Path.{◌≡◌, ◌∙◌}
use mathlib.Core.List.{List}
use native.Mathlib.Omega.{arith}
use lib.Dec.{eqb}
use lib.ListN.{length}
use borrow.Author.Tests.{eq-eqb, ne_eqb, eqb-true, eqb-false, not-true, not-false}
use Rattle.paper.specs.Exactly.{When, Exactly}
use Rattle.paper.specs.Refusals.{out_of_range, no_mode}
use Rattle.paper.proofs.Cases.{by_lt, by_eq, by_fault}
use Rattle.paper.proofs.Rows.{Tells, tells-eq, row, rows-passed, passed-not}
use Rattle.seek.proofs.Firsts.{first_passes, first-before}
use Rattle.mode.specs.Modes.{SaysSize, FirstSays, size_said, says_any, copy_found, mode_of, mode_fault, ModeJudged}
use Rattle.mode.proofs.Found.{number-says, says-number, says_some, says-among, found_first}

module _ (images : List ℕ) (apart : ℕ) where
  -- the number of each case
  pub mode-apart : apart ≡ 0 → mode_fault images apart ≡ out_of_range
  unfolding mode_fault
  mode-apart none = rw (eq-eqb apart 0 none)

  module _ (some : apart ≡ 0 → ⊥) where
    pub mode-none : mode_of images apart ≡ 0 → mode_fault images apart ≡ no_mode
    unfolding mode_fault
    mode-none none = rw (ne_eqb apart 0 some, eq-eqb (mode_of images apart) 0 none)

    pub mode-some : (mode_of images apart ≡ 0 → ⊥) → mode_fault images apart ≡ 0
    unfolding mode_fault
    mode-some found = rw (ne_eqb apart 0 some, ne_eqb (mode_of images apart) 0 found)

    above : 0 < apart
    above = by_eq apart 0 (λ none. absurd (some none)) (λ other. omega arith)

    -- a copy before the one that is found says none, and that one says a size where any does
    before-none : (k : ℕ) → k < copy_found images apart → size_said images apart k ≡ 0
    unfolding copy_found
    before-none k below = eqb-true _ _ (not-false _ (first-before (says_any images apart) (length images) k below))

    found_some : copy_found images apart < length images → mode_of images apart ≡ 0 → ⊥
    unfolding copy_found
    found_some inside = eqb-false _ _ (not-true _ (first_passes (says_any images apart) (length images) inside))

    pub found-says : (k : ℕ) {size : ℕ} → SaysSize images (k * apart) size → mode_of images apart ≡ 0 → ⊥
    found-says k said none =
        by_lt k (copy_found images apart)
        (λ below. says_some images (k * apart) said (before-none k below))
        (λ after. found_some (omega (arith, says-among images apart k above said)) none)

    -- some copy says the size that is found, and no earlier one says any
    pub mode-first : (mode_of images apart ≡ 0 → ⊥) → FirstSays images apart (mode_of images apart)
    mode-first found =
        record {
          copy = copy_found images apart;
          says = number-says images (copy_found images apart * apart) found;
          none_before = λ k size below says. says_some images (k * apart) says (before-none k below);
        }

    -- and where one is the first that says a size, that is the size found
    pub first-mode : {size : ℕ} → FirstSays images apart size → mode_of images apart ≡ size
    first-mode first =
        found_first images apart above first.copy (says_some images (first.copy * apart) first.says)
        (λ k below. by_fault (size_said images apart k) (λ none. none) (λ said. absurd (first.none_before k _ below (number-says images (k * apart) said))))
        ∙ says-number images (first.copy * apart) first.says

  -- where no copy says a size there is none
  pub none-modes : (apart ≡ 0 → ⊥) → ((k size : ℕ) → SaysSize images (k * apart) size → ⊥) → mode_of images apart ≡ 0
  none-modes some none =
      by_fault (mode_of images apart) (λ zero. zero) (λ found. absurd (none (copy_found images apart) _ (number-says images (copy_found images apart * apart) found)))

  tells_none : (apart ≡ 0 → ⊥) → Tells (eqb (mode_of images apart) 0) ((k size : ℕ) → SaysSize images (k * apart) size → ⊥)
  tells_none some =
      record {
        holds = λ e k size said. found-says some k said (eqb-true _ _ e);
        told = λ none. eq-eqb _ _ (none-modes some none);
      }

  pub mode-exactly : Exactly (ModeJudged images apart) (mode_fault images apart)
  unfolding mode_fault
  mode-exactly =
      rows-passed (When out_of_range (apart ≡ 0)) (When no_mode ((k size : ℕ) → SaysSize images (k * apart) size → ⊥))
      (row (tells-eq apart 0) out_of_range)
      (λ none. row (tells_none (passed-not (tells-eq apart 0) out_of_range (omega arith) none)) no_mode)
