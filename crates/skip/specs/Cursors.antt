-- Document 01, "Skipping": the job cursor, when it belongs to a list, and the checks of its calls.
use Rattle.std.specs.Prelude.{ℕ, zero, suc, ◌≤◌, ◌≡◌, Bool, not, ◌&&◌, List, leb, eqb}
use Rattle.paper.specs.Checks.{refuse, ◌or_else◌}
use Rattle.paper.specs.Refusals.{no_such_block, stray_cursor}
use Rattle.paper.specs.Exactly.{When, ◌and_then◌}
use Rattle.lists.specs.Proper.{space_fault, SpaceJudged}
use Rattle.lists.specs.Union.{is_in}
use Rattle.skip.specs.Skipping.{place}
use Rattle.skip.specs.Walk.{entries_below}
use Rattle.skip.specs.Translation.{blocks, PastBlocks}
use Rattle.skip.specs.declared.Cursor.{Cursor}

-- the count of a cursor whose next block is b: the entries below the sector of block b − 1, and 0 at block 0
abbrev pub count_at : ℕ → List ℕ → ℕ → ℕ
count_at n a zero = 0
count_at n a (suc b) = entries_below a (place (is_in a) n b)

-- the cursor whose next block is b
abbrev pub cursor_at : ℕ → List ℕ → ℕ → Cursor
cursor_at n a b = record { block = b; skipped = count_at n a b }

-- the cursor that a refused start or check hands back
abbrev pub no_cursor : Cursor
no_cursor = record { block = 0; skipped = 0 }

-- a cursor belongs to this N and list
pub record Belongs (n : ℕ) (a : List ℕ) (c : Cursor) : Type 0 where
  pub within : c.block ≤ blocks n a
  pub counts : c.skipped ≡ count_at n a c.block

-- whether it does
abbrev pub belongs : ℕ → List ℕ → Cursor → Bool
belongs n a c = leb c.block (blocks n a) && eqb c.skipped (count_at n a c.block)

-- checks 1, list, 9 of `Cursor::check`
abbrev pub check_fault : ℕ → List ℕ → Cursor → ℕ
check_fault n a c = space_fault n a or_else refuse (not (belongs n a c)) stray_cursor

-- checks 1, list, 9, 5 of `Cursor::step`
abbrev pub step_fault : ℕ → List ℕ → Cursor → ℕ
step_fault n a c = check_fault n a c or_else refuse (leb (blocks n a) c.block) no_such_block

-- exactly when `Cursor::check` gives each number
abbrev pub CheckJudged : ℕ → List ℕ → Cursor → ℕ → Type 0
CheckJudged n a c = SpaceJudged n a and_then When stray_cursor (Belongs n a c → ⊥)

-- exactly when `Cursor::step` gives each number
abbrev pub StepJudged : ℕ → List ℕ → Cursor → ℕ → Type 0
StepJudged n a c = CheckJudged n a c and_then When no_such_block (PastBlocks n a c.block)
