-- The loop's invariant: no place passed is at fault.
use Prim.Native.Nat.{ℕ, ◌<◌}
use mathlib.Core.Path.{◌≡◌}
use Rattle.lists.specs.Proper.{fault_at}
use Rattle.lists.proofs.check_list.Given as goal

abbrev pub invariant-loop-i : goal.invariant-loop-i
invariant-loop-i l = (k : ℕ) → k < l.i → fault_at l.n l.list k ≡ 0
