-- The part that is lent on is the sector image that starts there.
use Rattle.reading.proofs.Seats.{image-part}
use Rattle.reading.proofs.check_part.Goals as goal

pub returns : goal.returns
returns c = rw (image-part c.args.size c.args.start c.args.track.now) at c.check_contents.ensures
