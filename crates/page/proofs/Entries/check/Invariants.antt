-- The loop's invariant: no place passed is at fault.
use Prim.Native.Nat.{ℕ, ◌<◌}
use mathlib.Core.Path.{◌≡◌}
use Rattle.lists.specs.Proper.{fault_at}
use Rattle.words.specs.Words.{entries_at}
use Rattle.page.specs.Layout.{entries_place}
use Rattle.page.proofs.Entries.check.Given as goal

abbrev pub invariant-loop-i : goal.invariant-loop-i
invariant-loop-i l = (k : ℕ) → k < l.i → fault_at l.n (entries_at l.self.page.now entries_place l.self.count) k ≡ 0
