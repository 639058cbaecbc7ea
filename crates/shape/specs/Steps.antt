-- For the code alone: no sentence of the paper needs it.
-- The part of check 1 that looks at the groups of a shape.
use Rattle.std.specs.Prelude.{ℕ, not}
use Rattle.paper.specs.Checks.{refuse}
use Rattle.paper.specs.Refusals.{out_of_range}
use Rattle.shape.specs.declared.Shape.{Shape}
use Rattle.shape.specs.Shapes.{grouped}

-- check 1 for the groups of a shape
abbrev pub group_fault : Shape → ℕ
group_fault shape = refuse (not (grouped shape)) out_of_range
