-- A page whose test says so is laid out, and so long enough for its frame.
use mathlib.Core.Path.{sym, ◌∙◌}
use Rattle.page.proofs.Exact.{tells-laid-out}
use Rattle.page.proofs.check_page.Goals as goal

pub of-entries-requires : goal.of-entries-requires
of-entries-requires c = ((tells-laid-out c.args.page.now).holds (sym c.laid_out.ensures ∙ c.if-not-laid_out.false)).long.0
