-- What the first place of a search order is whose descriptor passes a test: a place of the table that passes where there is one, with none before it that does, and the table's length where no place passes.
-- Assumes nothing.
use Prim.Native.Nat.{ℕ, ◌%◌, ◌<◌, ◌≤◌}
use mathlib.Core.Path.{◌≡◌}
use mathlib.Core.Bool.{Bool, true, false}
use mathlib.Core.List.{List}
use native.Mathlib.Omega.{arith}
use lib.ListN.{length, get_or}
use Rattle.paper.specs.Limits.{table_block}
use Rattle.seek.specs.Search.{first_or, Before}
use Rattle.seek.proofs.Searches.{first_or-passes, first_or-clean, first_or-bound}
use Rattle.seek.proofs.Befores.{found_before}
use Rattle.order.specs.Order.{order}
use Rattle.order.proofs.Once.{order-every, order-inside, order-once}
use Rattle.order.proofs.Blocks.{passes_at}

module _ (passes : ℕ → Bool) (t : List ℕ) (p : ℕ) where
  abbrev first_place : ℕ
  first_place = first_or (length t) (passes_at passes t) (order (length t) p)

  -- what is found passes
  pub first_passes : first_place < length t → passes (get_or t first_place 0) ≡ true
  first_passes here = first_or-passes (passes_at passes t) (length t) (order (length t) p) (λ none. omega arith)

  module _ (whole : length t % table_block ≡ 0) (inside : p < length t) where
    pub first-bound : first_place ≤ length t
    first-bound = first_or-bound (passes_at passes t) (length t) (order (length t) p) (order-inside (length t) p whole inside)

    -- nothing that comes before it does
    pub first-before : first_place < length t → (q : ℕ) → Before (order (length t) p) q first_place → passes (get_or t q 0) ≡ false
    first-before here = found_before (passes_at passes t) (length t) (order (length t) p) (λ none. omega arith) (order-once (length t) p whole inside first_place here)

    -- the table's length is given only where no place passes
    pub none_passes : length t ≤ first_place → (q : ℕ) → q < length t → passes (get_or t q 0) ≡ false
    none_passes past q h =
        first_or-clean (passes_at passes t) (length t) (order (length t) p)
        (λ m. omega (arith, order-inside (length t) p whole inside (length t) m))
        (omega (arith, first-bound))
        q
        (order-every (length t) p whole inside q h)
