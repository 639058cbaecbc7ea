-- The loop's invariant: so many of the places passed hold another value.
use mathlib.Core.Path.{◌≡◌}
use mathlib.Core.Bool.{not}
use Rattle.std.specs.List.{count_by}
use lib.ListN.{take}
use Rattle.comparing.proofs.changed.Given as goal

abbrev pub invariant-loop-x : goal.invariant-loop-x
invariant-loop-x g l = l.count ≡ count_by (λ x. not (g.T.PartialEq.eq x l.before)) (take l.x-index l.room)
