-- For the code alone: no sentence of the paper needs it.
-- What one more bad sector does to a table, the counts of a list, and what the replacement of many blocks asks for.
use Rattle.std.specs.Prelude.{ℕ, ◌≤◌, ◌≡◌, true, List, length, set}
use Rattle.paper.specs.Checks.{pick}
use Rattle.lists.specs.Proper.{Rising, Inside}
use Rattle.lists.specs.Union.{is_in}
use Rattle.layout.specs.declared.Drive.{Drive}
use Rattle.layout.specs.Descriptors.{free, unusable, word_of}
use Rattle.layout.specs.Sides.{is_home, block_of_home, place_of_spare}
use Rattle.table.specs.Steps.{Obeys}
use Rattle.table.specs.Lookup.{Replaced}
use Rattle.table.specs.Counting.{code_count}
use Rattle.replacing.specs.Replacing.{replaced_in}
use Rattle.first_table.specs.declared.marks.Bad.{Bad}
use Rattle.first_table.specs.Marks.{bad_homes, bad_spares}

-- a table with one more bad sector: its spare is marked, and a home sector alters nothing
abbrev pub marked_also : Drive → ℕ → List ℕ → List ℕ
marked_also drive s t = pick (is_home drive s) t (set t (place_of_spare drive s) (word_of unusable 0))

-- the counts of a list
pub record CountsBad (drive : Drive) (list : List ℕ) (bad : Bad) : Type 0 where
  pub are-homes : bad.homes ≡ length (bad_homes drive list)
  pub are-spares : bad.spares ≡ bad_spares drive list

-- a table with one more bad sector seen to: its home block is replaced, and a spare alters nothing
abbrev pub replaced_also : Drive → ℕ → List ℕ → List ℕ
replaced_also drive s t = pick (is_home drive s) (replaced_in drive t (block_of_home drive s)) t

-- blocks that can be replaced one after another in a table: it obeys the rules and has a free place for each, and they are different home blocks, none of them replaced
pub record Replaceable (drive : Drive) (t blocks : List ℕ) : Type 0 where
  pub obeys : Obeys drive t
  pub enough : length blocks ≤ code_count t free
  pub homes : Inside drive.blocks blocks
  pub rise : Rising blocks
  pub unnamed : (b : ℕ) → is_in blocks b ≡ true → Replaced t b → ⊥
