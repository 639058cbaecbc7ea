-- An entry of the list is the word at its place of the page.
use Prim.Native.Nat.{◌-◌}
use native.Mathlib.Omega.{arith}
use borrow.Author.Tests.{ne_eqb}
use Rattle.words.proofs.Runs.{get_or-entries_at}
use Rattle.page.specs.Layout.{entries_place}
use Rattle.page.proofs.Entries.rises_at.Goals as goal

pub returns-else-i-eq0 : goal.returns-else-i-eq0
returns-else-i-eq0 c =
    let a = c.args in
    rw (
      ne_eqb _ _ c.if-i-eq0.false,
      get_or-entries_at a.self.page.now entries_place a.self.count a.i (omega arith),
      get_or-entries_at a.self.page.now entries_place a.self.count (a.i - 1) (omega arith),
      ← c.entry_at.ensures,
      ← c.entry_at-else-i-eq0.ensures,
    )
