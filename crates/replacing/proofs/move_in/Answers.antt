-- The spare is searched for before anything is stored, and marking the old one does not change which it is.
use mathlib.Core.Path.{◌∙◌}
use borrow.Author.Tests.{lt-leb}
use Rattle.paper.proofs.Kept.{accepts}
use Rattle.replacing.proofs.Moves.{spare-kept}
use Rattle.replacing.proofs.move_in.Goals as goal

pub returns : goal.returns
returns c =
    let found = c.in-Some.ensures in
    accepts (rw (← found.0, lt-leb _ _ found.1)) found.0 (c.store.ensures ∙ rw (found.0, c.kill.ensures, spare-kept _ _ _))
