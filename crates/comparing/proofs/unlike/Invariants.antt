-- The loop's invariant: so many of the pairs passed differ.
use mathlib.Core.Path.{◌≡◌}
use mathlib.Core.Bool.{not}
use Rattle.std.specs.List.{count_by, zip}
use lib.Dec.{eqb}
use lib.ListN.{length, take}
use Rattle.comparing.proofs.unlike.Given as goal

abbrev pub invariant-loop-x : goal.invariant-loop-x
invariant-loop-x l = l.count ≡ count_by (λ both. not (eqb both.0 both.1)) (take (length l.yielded) (zip l.a l.b))
