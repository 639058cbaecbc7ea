-- The place that the look-up finds decides as in the definition, and the descriptor there is the header.
use borrow.Author.Tests.{lt-ltb, le-ltb}
use Prim.Native.Nat.{◌<◌}
use native.Mathlib.Omega.{arith}
use lib.ListN.{length}
use Rattle.table.specs.Lookup.{place_of}
use Rattle.reading.specs.Tracks.{sector_in}
use Rattle.reading.proofs.Seats.{header-home, header-spare}
use Rattle.reading.proofs.seat_of.Goals as goal

pub returns-in-Some : goal.returns-in-Some
unfolding sector_in
returns-in-Some c =
    let t = c.args.table.words.now in
    let found : place_of t c.args.block < length t = rw c.in-Some.ensures.0 at c.in-Some.ensures.1 in
    rw (header-spare t c.args.block found, ← c.in-Some.ensures.0, lt-ltb _ _ c.in-Some.ensures.1)

pub returns-in-None : goal.returns-in-None
unfolding sector_in
returns-in-None c =
    let t = c.args.table.words.now in
    let none = le-ltb (place_of t c.args.block) (length t) (omega (arith, c.in-None.ensures)) in
    rw (header-home t c.args.block none, none)
