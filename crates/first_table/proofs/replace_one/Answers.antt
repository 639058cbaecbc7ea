-- A home block is below the number of blocks, and where a place is free there is a spare for it.
use mathlib.Core.Path.{◌≡◌, sym, ◌∙◌}
use mathlib.Core.Bool.{true}
use Rattle.layout.specs.Sides.{is_home}
use Rattle.first_table.proofs.Numbering.{block_in}
use Rattle.first_table.proofs.Replacings.{free-found}
use Rattle.first_table.proofs.replace_one.Goals as goal

pub replace_in-requires-clause-block_lt_blocks : goal.replace_in-requires-clause-block_lt_blocks
replace_in-requires-clause-block_lt_blocks c =
    let a = c.args in
    let home : is_home a.layout.drive a.sector ≡ true = sym c.is_home.ensures ∙ c.if-not-is_home.false in
    rw c.block_of_home.ensures (block_in a.layout.laid a.sector c.requires.sector_bound home)

pub replace_in-requires-clause-block_in_bounds : goal.replace_in-requires-clause-block_in_bounds
replace_in-requires-clause-block_in_bounds c =
    let a = c.args in
    let home : is_home a.layout.drive a.sector ≡ true = sym c.is_home.ensures ∙ c.if-not-is_home.false in
    let below = block_in a.layout.laid a.sector c.requires.sector_bound home in
    rw c.block_of_home.ensures (free-found a.layout.laid c.requires.obeys below (c.requires.free_nonzero home))
