-- The part that is lent on is the sector image of the XBN.
use Rattle.mode.proofs.Found.{xbn-part}
use Rattle.mode.proofs.size_at.Goals as goal

pub returns : goal.returns
returns c = rw (xbn-part c.args.images.now c.args.xbn) at c.size_in.ensures
