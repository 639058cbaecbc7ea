-- What a passed check of a block or a sector shows: a proper list over an N in range, and a number below its bound.
-- Assumes nothing.
use Prim.Native.Nat.{ℕ, ◌<◌, ◌≤◌}
use mathlib.Core.Path.{◌≡◌, sym}
use mathlib.Core.List.{List}
use native.Mathlib.Omega.{arith}
use lib.Dec.{leb}
use Rattle.paper.proofs.Rows.{below-shows}
use Rattle.paper.specs.Checks.{refuse}
use Rattle.paper.specs.Refusals.{no_such_block, no_such_sector}
use Rattle.paper.specs.Limits.{units_most}
use Rattle.paper.proofs.Chain.{or_else-first, or_else-next}
use Rattle.lists.specs.Proper.{Proper, space_fault}
use Rattle.lists.proofs.Exact.{space-list, space-size}
use Rattle.lists.specs.Union.{is_in}
use Rattle.skip.specs.Skipping.{place}
use Rattle.skip.specs.Walk.{walked}
use Rattle.skip.specs.Translation.{blocks, sector_of_fault, block_on_fault}
use Rattle.skip.proofs.Walks.{walk-is-place}

module _ (n : ℕ) (a : List ℕ) where
  pub block-space : (b : ℕ) → sector_of_fault n a b ≡ 0 → space_fault n a ≡ 0
  block-space b none = or_else-first (space_fault n a) (refuse (leb (blocks n a) b) no_such_block) none

  pub block-below : (b : ℕ) → sector_of_fault n a b ≡ 0 → b < blocks n a
  block-below b none =
      below-shows (blocks n a) b no_such_block (omega arith) (or_else-next (space_fault n a) (refuse (leb (blocks n a) b) no_such_block) none)

  pub block-proper : (b : ℕ) → sector_of_fault n a b ≡ 0 → Proper n a
  block-proper b none = space-list n a (block-space b none)

  -- a block is no larger than a drive
  pub block-most : (b : ℕ) → sector_of_fault n a b ≡ 0 → b ≤ units_most
  block-most b none = omega (arith, block-below b none, (space-size n a (block-space b none)).1)

  pub block-walk : (b : ℕ) → sector_of_fault n a b ≡ 0 → walked a b ≡ place (is_in a) n b
  block-walk b none =
      let proper : Proper n a = block-proper b none in
      sym (walk-is-place n a proper.rising proper.inside b (block-below b none))

  pub sector-proper : (s : ℕ) → block_on_fault n a s ≡ 0 → Proper n a
  sector-proper s none = space-list n a (or_else-first (space_fault n a) (refuse (leb n s) no_such_sector) none)
