-- In a table that obeys the rules the search for a block stops at the place that names it, where there is one, and otherwise at a free place or nowhere.
use mathlib.Core.Path.{sym, ◌∙◌}
use native.Mathlib.Omega.{arith}
use Rattle.table.proofs.Obeying.{primary-in}
use Rattle.table.proofs.Stops.{stop_is, stop-none}
use Rattle.table.proofs.Table.place_of.Goals as goal

pub search-requires-clause-primary_in_bounds : goal.search-requires-clause-primary_in_bounds
search-requires-clause-primary_in_bounds c = rw c.primary.ensures (primary-in c.args.self.obeys c.args.self.layout.laid c.requires)

pub returns-in_err-place : goal.returns-in_err-place
returns-in_err-place c =
    let stop = rw c.primary.ensures at c.in_err-place.ensures in
    rw c.from_residual.ensures (stop-none c.args.self.layout.laid c.args.self.obeys c.requires (λ found. absurd (omega arith)))

pub returns-then-names : goal.returns-then-names
returns-then-names c =
    let stop = rw c.primary.ensures at c.in_ok-place.ensures in (
      stop.0 ∙ sym (stop_is c.args.self.layout.laid c.args.self.obeys c.requires (rw stop.0 at stop.1) (rw (← stop.0) (sym c.names.ensures ∙ c.if-names.true))),
      stop.1,
    )

pub returns : goal.returns
returns c =
    let stop = rw c.primary.ensures at c.in_ok-place.ensures in
    stop-none c.args.self.layout.laid c.args.self.obeys c.requires (λ found. rw (← stop.0) (sym c.names.ensures ∙ c.if-names.false))
