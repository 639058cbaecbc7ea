-- The loop's invariant: the census is that of the places passed.
use mathlib.Core.Path.{◌≡◌}
use Rattle.table.specs.Steps.{census_below}
use Rattle.table.proofs.census_of.Given as goal

abbrev pub invariant-loop-word : goal.invariant-loop-word
invariant-loop-word l = l.census ≡ census_below l.words l.word-index
