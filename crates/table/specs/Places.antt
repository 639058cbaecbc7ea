-- Document 01, "Descriptors and spares": how many places a descriptor table has, and the code under which a place names a block.
use Rattle.std.specs.Prelude.{ℕ, ◌+◌, ◌-◌, ◌*◌, ◌/◌, eqb}
use Rattle.paper.specs.Checks.{pick}
use Rattle.paper.specs.Limits.{table_block}
use Rattle.layout.specs.declared.Drive.{Drive}
use Rattle.layout.specs.Descriptors.{at_primary, elsewhere, primary}

-- as many whole table blocks as the spares need
abbrev pub table_length : Drive → ℕ
table_length drive = table_block * ((drive.spares + (table_block - 1)) / table_block)

-- code 2 exactly where the place is the block's primary, and 3 at any other
abbrev pub code_at : Drive → ℕ → ℕ → ℕ
code_at drive q b = pick (eqb q (primary drive b)) at_primary elsewhere
