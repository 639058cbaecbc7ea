-- The entry at the place that counts the entries below the sector tells whether the sector is in the list.
use native.Mathlib.Omega.{arith}
use Rattle.skip.proofs.Naming.{rank-le, name-entry, name-good}
use Rattle.skip.proofs.name.Goals.{else-at-list-via-then-at-list+else-list-at, else-at-list-via-else-at-list}
use Rattle.skip.proofs.name.Goals as goal

pub returns-then-list-at : goal.returns-then-list-at
returns-then-list-at c = name-entry c.args.list.entries.now c.args.sector c.entries_below-below.result c.args.list.rising c.entries_below-below.ensures c.if-at-list.true c.if-list-at.true

pub overflow_sub-result : goal.overflow_sub-result
overflow_sub-result c = omega (arith, rank-le c.args.list.entries.now c.args.sector c.entries_below-below.result c.args.list.rising c.entries_below-below.ensures)

pub returns : goal.returns
returns c =
    name-good c.args.list.entries.now c.args.sector c.entries_below-below.result c.args.list.rising c.entries_below-below.ensures
    (elim c.else-at-list.branch [
      | else-at-list-via-then-at-list+else-list-at w ↦ λ h e. w.if-list-at.false e
      | else-at-list-via-else-at-list w ↦ λ h e. omega arith
    ])
