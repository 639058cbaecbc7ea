-- The count of the first copy decides as in the definition.
use Prim.Native.Nat.{◌<◌, ◌≤◌}
use borrow.Author.Tests.{lt-ltb, le-ltb}
use Rattle.words.specs.Words.{word32_at}
use Rattle.seek.specs.Count.{times}
use Rattle.image.specs.Image.{copies_least, copies, header_of}
use Rattle.image.proofs.header_of.Goals as goal

pub returns-then-times-lt-COPIES_LEAST : goal.returns-then-times-lt-COPIES_LEAST
unfolding header_of
returns-then-times-lt-COPIES_LEAST c =
    let image = c.args.image.now in
    let few : times (word32_at image 0) (copies image) < copies_least = rw (c.times.ensures, c.word32_at-first.ensures) at c.if-times-lt-COPIES_LEAST.true in
    rw (lt-ltb _ _ few) c.word32_at.ensures

pub returns : goal.returns
unfolding header_of
returns c =
    let image = c.args.image.now in
    let enough : copies_least ≤ times (word32_at image 0) (copies image) = rw (c.times.ensures, c.word32_at-first.ensures) at c.if-times-lt-COPIES_LEAST.false in
    rw (le-ltb _ _ enough) c.word32_at-first.ensures
