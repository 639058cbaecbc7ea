-- A sector is the home of a block or the sector of a spare, which has a place in the table.
use mathlib.Core.Path.{sym, ◌∙◌}
use borrow.Author.Tests.{ltb-true, ltb-false}
use Prim.Native.Nat.{◌%◌}
use Rattle.layout.specs.Layouts.{sectors_per_track}
use Rattle.layout.proofs.Sectors.{block-below, place-below}
use Rattle.table.proofs.Obeying.{spare-in}
use Rattle.table.proofs.Table.lying_on.Goals as goal

pub place_of-requires : goal.place_of-requires
place_of-requires c =
    let drive = c.args.self.layout.drive in
    let before = ltb-true (c.args.sector % sectors_per_track drive) drive.l (sym c.is_home.ensures ∙ c.if-is_home.true) in
    rw c.block_of_home-block.ensures (block-below c.args.self.layout.laid c.requires before)

pub bounds-self-place_of_spare : goal.bounds-self-place_of_spare
bounds-self-place_of_spare c =
    let drive = c.args.self.layout.drive in
    let spare = place-below c.args.self.layout.laid c.requires (ltb-false (c.args.sector % sectors_per_track drive) drive.l (sym c.is_home.ensures ∙ c.if-is_home.false)) in
    rw c.place_of_spare.ensures (spare-in c.args.self.obeys spare)
