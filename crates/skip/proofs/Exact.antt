-- Each public call of `skip` gives exactly the numbers of its rows.
-- Assumes nothing.
use Prim.Native.Nat.{ℕ}
use mathlib.Core.List.{List}
use Rattle.paper.specs.Refusals.{no_such_block, no_such_sector, stray_cursor}
use Rattle.paper.specs.Exactly.{Exactly}
use Rattle.paper.proofs.Rows.{tells-le, tells-not, row, rows}
use Rattle.lists.proofs.Exact.{space-exactly}
use Rattle.skip.specs.Translation.{blocks, sector_of_fault, block_on_fault, SectorOfJudged, BlockOnJudged}
use Rattle.skip.specs.Cursors.{check_fault, step_fault, CheckJudged, StepJudged}
use Rattle.skip.specs.declared.Cursor.{Cursor}
use Rattle.skip.proofs.Cursoring.{tells-belongs}

module _ (n : ℕ) (a : List ℕ) where
  pub sector-of-exactly : (b : ℕ) → Exactly (SectorOfJudged n a b) (sector_of_fault n a b)
  sector-of-exactly b = rows _ _ (space-exactly n a) (row (tells-le (blocks n a) b) no_such_block)

  pub block-on-exactly : (s : ℕ) → Exactly (BlockOnJudged n a s) (block_on_fault n a s)
  block-on-exactly s = rows _ _ (space-exactly n a) (row (tells-le n s) no_such_sector)

  pub check-exactly : (c : Cursor) → Exactly (CheckJudged n a c) (check_fault n a c)
  check-exactly c = rows _ _ (space-exactly n a) (row (tells-not (tells-belongs n a c)) stray_cursor)

  pub step-exactly : (c : Cursor) → Exactly (StepJudged n a c) (step_fault n a c)
  step-exactly c = rows _ _ (check-exactly c) (row (tells-le (blocks n a) c.block) no_such_block)
