-- Document 01, "Descriptors and spares", and document 02, Q-7: the ways in which a descriptor table breaks its rules, the check of a table, and that of a block after it; document 02, Q-6: the check of scratch before them.
use Rattle.std.specs.Prelude.{ℕ, ◌<◌, ◌≤◌, ◌≡◌, not, List, leb, length, get_or}
use Rattle.paper.specs.Checks.{refuse, ◌or_else◌}
use Rattle.paper.specs.Refusals.{bad_table, no_such_block}
use Rattle.paper.specs.Exactly.{When, ◌and_then◌}
use Rattle.paper.specs.Conditions.{NotBelow}
use Rattle.seek.specs.Search.{Before}
use Rattle.shape.specs.declared.Shape.{Shape}
use Rattle.shape.specs.Shapes.{Shaped}
use Rattle.layout.specs.declared.Drive.{Drive}
use Rattle.layout.specs.Layouts.{Spared, drive_of}
use Rattle.layout.specs.Descriptors.{free, at_primary, elsewhere, unusable, null, code_of, number_of, primary, Allocated}
use Rattle.order.specs.Order.{order}
use Rattle.table.specs.Places.{table_length}
use Rattle.table.specs.Scratch.{scratch_fault, ScratchJudged}
use Rattle.table.specs.Steps.{obeys}

-- the ways in which the word w at place q breaks a rule that looks at one place
pub data Misplaced (drive : Drive) (q w : ℕ) : Type 0 where
  -- null stands at every place from the number of spares on
  null-missing : drive.spares ≤ q → (code_of w ≡ null → ⊥) → Misplaced drive q w
  -- and nowhere before
  null-early : q < drive.spares → code_of w ≡ null → Misplaced drive q w
  -- there are five codes
  unknown-code :
      (code_of w ≡ free → ⊥) → (code_of w ≡ unusable → ⊥) → (code_of w ≡ null → ⊥) → (Allocated w → ⊥) → Misplaced drive q w
  -- free, unusable and null carry number 0
  number-carried : (Allocated w → ⊥) → (number_of w ≡ 0 → ⊥) → Misplaced drive q w
  -- an allocated number is a home block
  no-home : Allocated w → drive.blocks ≤ number_of w → Misplaced drive q w
  -- code 2 stands at the block's primary alone
  not-primary : code_of w ≡ at_primary → (q ≡ primary drive (number_of w) → ⊥) → Misplaced drive q w
  -- and code 3 at other places alone
  is-primary : code_of w ≡ elsewhere → q ≡ primary drive (number_of w) → Misplaced drive q w

-- a free place comes before the place of an allocated block in that block's search order
pub record Holed (drive : Drive) (t : List ℕ) : Type 0 where
  pub place : ℕ
  pub in_table : place < length t
  pub allocated : Allocated (get_or t place 0)
  pub hole : ℕ
  pub is-free : code_of (get_or t hole 0) ≡ free
  pub comes-before : Before (order (length t) (primary drive (number_of (get_or t place 0)))) hole place

-- the ways in which a table breaks its rules
pub data Breaks (drive : Drive) (t : List ℕ) : Type 0 where
  -- it has exactly the length that the spares need
  other_length : (length t ≡ table_length drive → ⊥) → Breaks drive t
  -- what stands at a place may stand there
  misplaced : (q : ℕ) → q < length t → Misplaced drive q (get_or t q 0) → Breaks drive t
  -- an allocated number occurs once
  named-twice :
      (p q : ℕ) → p < q → q < length t → Allocated (get_or t p 0) → Allocated (get_or t q 0) →
      number_of (get_or t p 0) ≡ number_of (get_or t q 0) → Breaks drive t
  -- no free place comes before an allocated one in the search order of its block
  holed : Holed drive t → Breaks drive t

-- a drive and a table that pass: the shape and r are in their ranges, and no rule is broken
pub record Sound (shape : Shape) (r : ℕ) (t : List ℕ) : Type 0 where
  pub shaped : Shaped shape
  pub spared : Spared shape r
  pub unbroken : Breaks (drive_of shape r) t → ⊥

-- checks 1, 7, 11: the test refuses exactly the tables that break a rule, as the rows below say
abbrev pub table_fault : Shape → ℕ → List ℕ → List ℕ → ℕ
table_fault shape r t scratch = scratch_fault shape r scratch or_else refuse (not (obeys (drive_of shape r) t)) bad_table

-- exactly when 1, 7 and 11 are given for a table and its scratch
abbrev pub TableJudged : Shape → ℕ → List ℕ → List ℕ → ℕ → Type 0
TableJudged shape r t scratch = ScratchJudged shape r scratch and_then When bad_table (Breaks (drive_of shape r) t)

-- checks 1, 7, 11, 5
abbrev pub block_fault : Shape → ℕ → List ℕ → List ℕ → ℕ → ℕ
block_fault shape r t scratch b = table_fault shape r t scratch or_else refuse (leb (drive_of shape r).blocks b) no_such_block

-- exactly when 1, 7, 11 and 5 are given for a table, its scratch and a block: each number of `spares::sector_of`, `address_of` and `shift`
abbrev pub BlockJudged : Shape → ℕ → List ℕ → List ℕ → ℕ → ℕ → Type 0
BlockJudged shape r t scratch b = TableJudged shape r t scratch and_then When no_such_block (NotBelow (drive_of shape r).blocks b)
