-- What the public calls of `skip` promise.
use Rattle.std.specs.Prelude.{ℕ, suc, List, Option, Result, Ok, Err}
use Rattle.paper.specs.Numbers.{number}
use Rattle.paper.specs.Promise.{Gives, Fills}
use Rattle.paper.specs.declared.Refusal.{Refusal}
use Rattle.lists.specs.Union.{is_in}
use Rattle.skip.specs.Skipping.{place}
use Rattle.skip.specs.Translation.{sector_of_fault, block_on_fault, block_on}
use Rattle.skip.specs.Cursors.{cursor_at, no_cursor, check_fault, step_fault}
use Rattle.skip.specs.declared.Cursor.{Cursor}

-- refusal, sector (0, since none is answered), next block, skipped count; a refused start or check says the empty cursor
abbrev pub said_job : Result Cursor Refusal → ℕ × ℕ × ℕ × ℕ
said_job (Ok next) = (0, 0, next.block, next.skipped)
said_job (Err refusal) = (number refusal, 0, no_cursor.block, no_cursor.skipped)

-- refusal, sector, next block, skipped count, of a step and of the cursor that it hands back
abbrev pub said_step : Result ℕ Refusal → Cursor → ℕ × ℕ × ℕ × ℕ
said_step (Ok sector) after = (0, sector, after.block, after.skipped)
said_step (Err refusal) after = (number refusal, 0, after.block, after.skipped)

-- the sector that the block lies on
abbrev pub SectorOf : ℕ → List ℕ → ℕ → Result ℕ Refusal → Type 0
SectorOf n a b = Gives (sector_of_fault n a b) (place (is_in a) n b)

-- the block on the sector, or no block
abbrev pub BlockOn : ℕ → List ℕ → ℕ → Result (Option ℕ) Refusal → Type 0
BlockOn n a s = Gives (block_on_fault n a s) (block_on a s)

-- a job opens at a block, with the cursor of that block
abbrev pub Starts : ℕ → List ℕ → ℕ → Result Cursor Refusal → Type 0
Starts n a b = Gives (sector_of_fault n a b) (cursor_at n a b)

-- a cursor of this list is handed back as it is
abbrev pub Checks : ℕ → List ℕ → Cursor → Result Cursor Refusal → Type 0
Checks n a c = Gives (check_fault n a c) c

-- a step answers where the cursor's block lies, and hands back the cursor of the block after it; a refusal comes with the cursor as it went in
abbrev pub Steps : ℕ → List ℕ → Cursor → Result ℕ Refusal → Cursor → Type 0
Steps n a c = Fills (step_fault n a c) (place (is_in a) n c.block) c (cursor_at n a (suc c.block))
