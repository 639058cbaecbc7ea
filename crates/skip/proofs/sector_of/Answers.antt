-- A block that passes the checks walks to the place that the definition gives.
use mathlib.Core.Path.{◌∙◌}
use Rattle.skip.proofs.Shown.{block-walk}
use Rattle.skip.proofs.sector_of.Goals as goal

pub returns : goal.returns
returns c = (c.in_ok-list.ensures.0, rw c.in_ok-list.ensures.1 at c.walk.ensures ∙ block-walk c.args.n c.args.list.now c.args.block c.in_ok-list.ensures.0)
