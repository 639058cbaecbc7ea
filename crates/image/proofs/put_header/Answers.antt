-- The four words are written one after the other.
use Rattle.words.specs.Words.{bytes32, bytes_of}
use Rattle.image.proofs.put_header.Goals as goal

pub returns : goal.returns
unfolding bytes32 bytes_of
returns c =
    rw (
      c.put32-4.ensures,
      c.put32-3.ensures,
      c.put32-2.ensures,
      c.put32.ensures,
    )
