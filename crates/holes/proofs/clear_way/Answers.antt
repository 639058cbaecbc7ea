-- The number of an allocated word is a home block, whose primary is a spare's place.
use Prim.Native.Nat.{◌<◌}
use mathlib.Core.Path.{sym, ◌∙◌}
use native.Mathlib.Omega.{arith}
use Rattle.layout.proofs.Sectors.{primary-below}
use Rattle.holes.proofs.clear_way.Goals as goal

-- the primary of the block is a spare's place
spare : (c : goal.After-primary) → c.primary.result < c.args.layout.drive.spares
spare c =
    let below = c.requires.numbered.homes c.args.place c.requires.place_in_bounds (sym c.is_allocated.ensures ∙ c.if-not-is_allocated.false) in
    rw (c.primary.ensures, c.number_of.ensures) (primary-below c.args.layout.laid below)

pub clear_before-requires-clause-primary_in_table : goal.clear_before-requires-clause-primary_in_table
clear_before-requires-clause-primary_in_table c = omega (arith, spare c, c.requires.numbered.spares-in)

pub clear_before-requires-clause-primary_in_scratch : goal.clear_before-requires-clause-primary_in_scratch
clear_before-requires-clause-primary_in_scratch c = omega (arith, spare c)

pub clear_before-requires-clause-filled : goal.clear_before-requires-clause-filled
clear_before-requires-clause-filled c = λ q h. c.requires.filled q (omega (arith, spare c))
