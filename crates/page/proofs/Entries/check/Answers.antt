-- The first fault found is that of the lowest place.
use mathlib.Core.Path.{sym, ◌∙◌}
use native.Mathlib.Omega.{arith}
use borrow.Author.Count.{below_more}
use Rattle.paper.proofs.Kept.{number-some, exit-passes}
use Rattle.seek.proofs.Firsts.{fault-at, fault-none}
use Rattle.lists.specs.Proper.{fault_at}
use Rattle.words.specs.Words.{entries_at}
use Rattle.words.proofs.Runs.{length-entries_at}
use Rattle.page.specs.Layout.{entries_place}
use Rattle.page.proofs.Entries.check.Goals as goal

pub returns-in_err-check_place : goal.returns-in_err-check_place
returns-in_err-check_place c =
    let a = c.args in
    exit-passes _ _ _
    (rw (length-entries_at a.self.page.now entries_place a.self.count)
    (fault-at (fault_at a.n (entries_at a.self.page.now entries_place a.self.count)) a.self.count c.loop-i.i c.loop-i-test.true (λ none. number-some _ (sym c.in_err-check_place.ensures ∙ none)) c.loop-i.invariant
    ∙ c.in_err-check_place.ensures))
    c.from_residual.ensures.1

pub loop-i-preserved : goal.loop-i-preserved
loop-i-preserved c = below_more _ _ c.loop-i.invariant c.in_ok-check_place.ensures

pub returns : goal.returns
returns c =
    let a = c.args in
    rw (length-entries_at a.self.page.now entries_place a.self.count)
    (fault-none (fault_at a.n (entries_at a.self.page.now entries_place a.self.count)) a.self.count (λ k h. c.loop-i.invariant k (omega arith)))
