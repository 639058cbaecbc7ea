-- The four stores are the run of stores that the contract states.
use mathlib.Core.Path.{◌∙◌}
use Rattle.page.proofs.Bytes.{head-stored}
use Rattle.page.proofs.put_head.Goals as goal

pub returns : goal.returns
returns c = let a = c.args in c.put32-2.ensures ∙ rw c.put32.ensures (head-stored a.room.now a.long a.kind a.n)
