-- The search order's three parts one after another, for any test: a find in one of them is the find of all, and the next is searched where it has none.
-- Assumes nothing.
use Prim.Native.Nat.{ℕ, ◌+◌, ◌-◌, ◌%◌, ◌<◌}
use mathlib.Core.Path.{◌≡◌, sym, ◌∙◌, ap}
use mathlib.Core.Bool.{Bool}
use mathlib.Core.List.Memᴰ
use mathlib.Core.List.{List, ◌++◌, map}
use native.Mathlib.Omega.{arith}
use native.Mathlib.Nat.{sub-zero}
use lib.ListN.{length}
use Rattle.paper.specs.Limits.{table_block}
use Rattle.seek.specs.Search.{first_or, rising}
use Rattle.seek.proofs.Searches.{first_or-early, first_or-late}
use Rattle.order.specs.Order.{block_order, block_start, order}
use Rattle.order.proofs.Once.{order-inside}
use Rattle.order.proofs.Blocks.{passes_at}

module _ (passes : ℕ → Bool) (t : List ℕ) (p : ℕ) (whole : length t % table_block ≡ 0) (inside : p < length t) where
  -- the parts: the primary's block, the blocks after it, the blocks before it
  abbrev near : List ℕ
  near = map (λ (k : ℕ). block_start p + k) (block_order (p % table_block))

  abbrev after : List ℕ
  after = rising (block_start p + table_block) (length t - (block_start p + table_block))

  abbrev before : List ℕ
  before = rising 0 (block_start p)

  -- the first of a part that passes, or the table's length
  abbrev first_in : List ℕ → ℕ
  first_in = first_or (length t) (passes_at passes t)

  pub found-near : (place : ℕ) → place ≡ first_in near → place < length t → place ≡ first_in (order (length t) p)
  found-near place found here = found ∙ sym (first_or-early (passes_at passes t) (length t) near (after ++ before) (λ none. omega arith))

  module _ (none-near : first_in near ≡ length t) where
    near-passed : first_in (order (length t) p) ≡ first_in (after ++ before)
    near-passed =
        first_or-late (passes_at passes t) (length t) near
        (λ x m. order-inside (length t) p whole inside x (Memᴰ.append_left (after ++ before) m))
        (after ++ before)
        (omega arith)

    pub found_after : (place : ℕ) → place ≡ first_in after → place < length t → place ≡ first_in (order (length t) p)
    found_after place found here = found ∙ sym (near-passed ∙ first_or-early (passes_at passes t) (length t) after before (λ none. omega arith))

    pub found_before : first_in after ≡ length t → first_in (rising 0 (block_start p - 0)) ≡ first_in (order (length t) p)
    found_before none_after =
        let after-passed : first_in (after ++ before) ≡ first_in before =
        first_or-late (passes_at passes t) (length t) after
        (λ x m. order-inside (length t) p whole inside x (Memᴰ.append_right near (Memᴰ.append_left before m)))
        before
        (omega arith)
        in
        ap (λ (n : ℕ). first_in (rising 0 n)) (sub-zero (block_start p)) ∙ sym (near-passed ∙ after-passed)
