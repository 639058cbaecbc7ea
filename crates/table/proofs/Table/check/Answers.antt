-- A table that passes the test obeys the rules.
use mathlib.Core.Path.{sym, ◌∙◌}
use Rattle.table.proofs.Obeying.{obeys-shows}
use Rattle.table.proofs.Table.check.Goals as goal

pub invariant_of-result : goal.invariant_of-result
invariant_of-result c = record { obeys = obeys-shows c.in_ok-layout.layout.laid c.args.words.now (sym c.obeys_rules-obeyed.ensures.value ∙ c.if-not-obeyed.false) }
