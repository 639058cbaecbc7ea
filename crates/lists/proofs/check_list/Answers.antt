-- The first fault found is that of the lowest place.
use mathlib.Core.Path.{refl, sym, ◌∙◌}
use native.Mathlib.Omega.{arith}
use lib.ListN.{length}
use borrow.Author.Count.{below_more}
use borrow.Author.Tests.{le-ltb}
use Rattle.paper.specs.Limits.{list_most}
use Rattle.lists.specs.Proper.{fault_at}
use Rattle.seek.proofs.Firsts.{fault-at, fault-none}
use Rattle.paper.proofs.Kept.{number-some, exit-such}
use Rattle.lists.proofs.Exact.{list-shows}
use Rattle.lists.proofs.check_list.Goals as goal

pub returns-in_err-check_place : goal.returns-in_err-check_place
returns-in_err-check_place c =
    exit-such _ _ _ _
    (rw (le-ltb list_most (length c.args.list.now) (omega arith))
    (fault-at (fault_at c.args.n c.args.list.now) _ c.loop-i.i c.loop-i-test.true (λ none. number-some _ (sym c.in_err-check_place.ensures ∙ none)) c.loop-i.invariant
    ∙ c.in_err-check_place.ensures))
    c.from_residual.ensures.1

pub loop-i-preserved : goal.loop-i-preserved
loop-i-preserved c = below_more _ _ c.loop-i.invariant c.in_ok-check_place.ensures

pub invariant_of-result : goal.invariant_of-result
invariant_of-result c =
    let proper = list-shows c.args.n c.args.list.now (rw (le-ltb list_most (length c.args.list.now) (omega arith)) (fault-none (fault_at c.args.n c.args.list.now) _ (λ k h. c.loop-i.invariant k (omega arith)))) in
    record { rising = proper.rising; short = proper.short }

pub returns : goal.returns
returns c =
    (rw (le-ltb list_most (length c.args.list.now) (omega arith)) (fault-none (fault_at c.args.n c.args.list.now) _ (λ k h. c.loop-i.invariant k (omega arith))), refl)
