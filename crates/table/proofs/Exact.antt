-- The checks of a table and its scratch give exactly the numbers of their rows, and show what they check where they give none.
-- Assumes nothing.
use Prim.Native.Nat.{ℕ, ◌<◌, ◌≤◌}
use mathlib.Core.Path.{◌≡◌}
use mathlib.Core.List.{List}
use native.Mathlib.Omega.{arith}
use lib.ListN.{length, drop, replicate, length-replicate}
use borrow.Author.Tests.{lt-leb, le-ltb}
use Rattle.paper.specs.Refusals.{no_room, bad_table, no_such_block}
use Rattle.paper.specs.Promise.{written}
use Rattle.paper.specs.Exactly.{Exactly, When}
use Rattle.paper.proofs.Chain.{or_else-first, or_else-next, answer-accepted}
use Rattle.paper.proofs.Rows.{tells-le, tells-lt, passed-not, not-over, below-shows, row, rows, rows-passed}
use Rattle.shape.specs.declared.Shape.{Shape}
use Rattle.layout.specs.Layouts.{drive_of, drive_fault, DriveJudged}
use Rattle.layout.specs.Steps.{Laid}
use Rattle.layout.proofs.Layings.{laid}
use Rattle.layout.proofs.Exact.{drive-shows, drive-passes, drive-exactly}
use Rattle.table.specs.Rules.{Breaks, Sound, table_fault, block_fault, TableJudged, BlockJudged}
use Rattle.table.specs.Scratch.{Enough, scratch_fault, ScratchJudged, Scratched}
use Rattle.table.specs.Steps.{Obeys}
use Rattle.table.proofs.Obeying.{obeys-told, tells-breaks, unbroken-obeys}

-- a drive and a table that pass: the drive is laid, and the table obeys the rules
module _ {shape : Shape} {r : ℕ} {t : List ℕ} (sound : Sound shape r t) where
  pub sound-laid : Laid (drive_of shape r)
  sound-laid = laid sound.shaped sound.spared

  pub sound-obeys : Obeys (drive_of shape r) t
  sound-obeys = unbroken-obeys sound-laid sound.unbroken

module _ (shape : Shape) (r : ℕ) (scratch : List ℕ) where
  pub scratch-exactly : Exactly (ScratchJudged shape r scratch) (scratch_fault shape r scratch)
  scratch-exactly =
      rows (DriveJudged shape r) (When no_room (length scratch < (drive_of shape r).spares))
      (drive-exactly shape r)
      (row (tells-lt (length scratch) (drive_of shape r).spares) no_room)

  pub scratch-enough : scratch_fault shape r scratch ≡ 0 → Enough shape r scratch
  scratch-enough none = not-over (length scratch) (drive_of shape r).spares no_room (omega arith) (or_else-next (drive_fault shape r) _ none)

  scratch-laid : scratch_fault shape r scratch ≡ 0 → Laid (drive_of shape r)
  scratch-laid none = let drive = drive-shows shape r (or_else-first (drive_fault shape r) _ none) in laid drive.0 drive.1

  -- past 1 and this 7, what stands beyond the numbers for the spares after a walk stands when these are cleared
  pub scratch-cleared :
      (walked : List ℕ) {left : List ℕ} → scratch_fault shape r scratch ≡ 0 → drop (drive_of shape r).spares walked ≡ drop (drive_of shape r).spares scratch →
      left ≡ written (replicate (drive_of shape r).spares 0) walked → Scratched shape r scratch left
  scratch-cleared walked none beyond is =
      rw (answer-accepted (scratch_fault shape r scratch) (λ fault. scratch) (written (replicate (drive_of shape r).spares 0) scratch) none, is, length-replicate {A = ℕ} (drive_of shape r).spares 0, beyond)

module _ (shape : Shape) (r : ℕ) (t scratch : List ℕ) where
  pub table-exactly : Exactly (TableJudged shape r t scratch) (table_fault shape r t scratch)
  table-exactly =
      rows-passed (ScratchJudged shape r scratch) (When bad_table (Breaks (drive_of shape r) t))
      (scratch-exactly shape r scratch)
      (λ none. row (tells-breaks (scratch-laid shape r scratch none) t) bad_table)

  -- no number of them shows a drive and a table that pass, and scratch that is long enough
  module _ (none : table_fault shape r t scratch ≡ 0) where
    scratch-none : scratch_fault shape r scratch ≡ 0
    scratch-none = or_else-first (scratch_fault shape r scratch) _ none

    pub table-sound : Sound shape r t
    table-sound =
        let drive = drive-shows shape r (or_else-first (drive_fault shape r) _ scratch-none) in
        record {
          shaped = drive.0;
          spared = drive.1;
          unbroken = passed-not (tells-breaks (scratch-laid shape r scratch scratch-none) t) bad_table (omega arith) (or_else-next (scratch_fault shape r scratch) _ none);
        }

    pub table-enough : Enough shape r scratch
    table-enough = scratch-enough shape r scratch scratch-none

  -- and they give none there
  module _ (sound : Sound shape r t) (enough : Enough shape r scratch) where
    pub table-passes : table_fault shape r t scratch ≡ 0
    table-passes =
        rw (
          drive-passes shape r sound.shaped sound.spared,
          le-ltb (length scratch) (drive_of shape r).spares enough,
          obeys-told (sound-laid sound) t (sound-obeys sound),
        )

    pub block-passes : (b : ℕ) → b < (drive_of shape r).blocks → block_fault shape r t scratch b ≡ 0
    block-passes b below = rw (table-passes, lt-leb (drive_of shape r).blocks b below)

  module _ (b : ℕ) where
    pub block-exactly : Exactly (BlockJudged shape r t scratch b) (block_fault shape r t scratch b)
    block-exactly =
        rows (TableJudged shape r t scratch) (When no_such_block ((drive_of shape r).blocks ≤ b))
        table-exactly
        (row (tells-le (drive_of shape r).blocks b) no_such_block)

    module _ (none : block_fault shape r t scratch b ≡ 0) where
      pub block-table : table_fault shape r t scratch ≡ 0
      block-table = or_else-first (table_fault shape r t scratch) _ none

      pub block-sound : Sound shape r t
      block-sound = table-sound block-table

      pub block-enough : Enough shape r scratch
      block-enough = table-enough block-table

      pub block-below : b < (drive_of shape r).blocks
      block-below = below-shows (drive_of shape r).blocks b no_such_block (omega arith) (or_else-next (table_fault shape r t scratch) _ none)

-- to the checks one scratch that is long enough is as good as another
pub table-alike :
    (shape : Shape) (r : ℕ) (t scratch other : List ℕ) → Enough shape r scratch → Enough shape r other → table_fault shape r t scratch ≡ table_fault shape r t other
table-alike shape r t scratch other enough enough' =
    rw (le-ltb (length scratch) (drive_of shape r).spares enough, le-ltb (length other) (drive_of shape r).spares enough')
