-- Just so many entries are passed where so many are and one more is not.
use mathlib.Core.Path.{sym, ◌∙◌}
use native.Mathlib.Omega.{arith}
use borrow.Author.Tests.{leb-true}
use Rattle.skip.specs.Walk.{passes}
use Rattle.skip.proofs.Walks.{passes-le}
use Rattle.skip.proofs.passes_just.Goals as goal

pub overflow_add-count : goal.overflow_add-count
overflow_add-count c = omega (arith, leb-true c.args.count (passes c.args.list.entries.now c.args.block) (sym c.passes_at_least.ensures ∙ c.if-passes_at_least.true), passes-le c.args.list.entries.now c.args.block)
