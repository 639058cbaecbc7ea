-- The loop's invariant: the blocks that are left are ready in the table, and replaced in it they give the table of the contract.
use Rattle.first_table.proofs.Along.{Along}
use Rattle.first_table.proofs.replace_all.Given as goal

abbrev pub invariant-loop-sector : goal.invariant-loop-sector
invariant-loop-sector l = Along l.layout.drive l.list l.initial.table l.table l.sector-index
