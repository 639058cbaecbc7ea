-- Header, data and code are stored one after the other.
use Rattle.image.proofs.Images.{stored-whole}
use Rattle.image.proofs.put_image.Goals as goal

pub returns : goal.returns
returns c =
    let fits = c.requires in
    let a = c.args in
    rw (
      c.put16.ensures,
      c.put_bytes.ensures,
      c.put_header.ensures,
      c.carried-code.ensures,
    )
    (stored-whole a.number a.bytes.now a.forced a.room.now fits)
