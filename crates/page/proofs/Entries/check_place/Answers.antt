-- An entry of the list is the word at its place of the page.
use mathlib.Core.Path.{sym, ◌∙◌}
use borrow.Author.Tests.{le-leb, lt-leb}
use native.Mathlib.Omega.{arith}
use Rattle.words.proofs.Runs.{get_or-entries_at}
use Rattle.page.specs.Layout.{entries_place}
use Rattle.page.proofs.Entries.check_place.Goals as goal

pub returns-then-n-entry_at : goal.returns-then-n-entry_at
returns-then-n-entry_at c =
    let a = c.args in
    rw (
      sym c.rises_at.ensures ∙ c.if-not-rises_at.false,
      get_or-entries_at a.self.page.now entries_place a.self.count a.i (omega arith),
      ← c.entry_at.ensures,
      le-leb _ _ c.if-n-entry_at.true,
    )

pub returns : goal.returns
returns c =
    let a = c.args in
    rw (
      sym c.rises_at.ensures ∙ c.if-not-rises_at.false,
      get_or-entries_at a.self.page.now entries_place a.self.count a.i (omega arith),
      ← c.entry_at.ensures,
      lt-leb _ _ c.if-n-entry_at.false,
    )
