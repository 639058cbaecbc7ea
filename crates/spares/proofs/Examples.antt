-- The shift at both ends, by computation: C 4, H 1, S 3, r 1, so that each cylinder has two homes and one spare.
-- Assumes nothing.
use Prim.Native.Nat.{ℕ}
use mathlib.Core.Path.{◌≡◌, refl}
use mathlib.Core.List.{List, ◌∷◌}
use lib.IntN.{ℤ, pos, negsuc}
use lib.ListN.{replicate}
use Rattle.std.specs.Prelude.{Result, Ok}
use Rattle.paper.specs.declared.Refusal.{Refusal}
use Rattle.paper.proofs.Kept.{gives-accepted}
use Rattle.seek.specs.Lowest.{first_below}
use Rattle.seek.specs.Search.{first_or, rising}
use Rattle.seek.specs.Every.{all_below}
use Rattle.shape.specs.declared.Shape.{Shape}
use Rattle.layout.specs.Layouts.{drive_of}
use Rattle.table.specs.Lookup.{place_of}
use Rattle.table.specs.Rules.{block_fault}
use Rattle.spares.specs.Promises.{ShiftOf}
use Rattle.arm.specs.Shifts.{shift_of}

-- a number for each spare
abbrev scratch : List ℕ
scratch = replicate 4 0

abbrev small : Shape
small = record { cylinders = 4; heads = 1; sectors = 3; groups = 1; tracks = 1; offset = 0 }

-- four places, and null beyond them
abbrev holding : ℕ → ℕ → ℕ → ℕ → List ℕ
holding a b c d = a ∷ b ∷ c ∷ d ∷ replicate 124 0x80000000

-- block 6, of the last cylinder, at the first place, with no free place: 1 − C
pub shift-least : {shift : Result ℤ Refusal} → ShiftOf small 1 (holding 0x30000006 0x40000000 0x40000000 0x40000000) scratch 6 shift → shift ≡ Ok (negsuc 2)
unfolding place_of first_below all_below first_or rising
shift-least {shift} shifts =
    let t = holding 0x30000006 0x40000000 0x40000000 0x40000000 in
    gives-accepted (block_fault small 1 t scratch 6) (shift_of (drive_of small 1) t 6) shift refl shifts

-- and so much is answered
pub shift-least-given : ShiftOf small 1 (holding 0x30000006 0x40000000 0x40000000 0x40000000) scratch 6 (Ok (negsuc 2))
unfolding place_of first_below all_below first_or rising
shift-least-given = (refl, refl)

-- block 0 at the last place, with no free place: C − 1
pub shift-most : {shift : Result ℤ Refusal} → ShiftOf small 1 (holding 0x40000000 0x40000000 0x40000000 0x30000000) scratch 0 shift → shift ≡ Ok (pos 3)
unfolding place_of first_below all_below first_or rising
shift-most {shift} shifts =
    let t = holding 0x40000000 0x40000000 0x40000000 0x30000000 in
    gives-accepted (block_fault small 1 t scratch 0) (shift_of (drive_of small 1) t 0) shift refl shifts

-- and so much is answered
pub shift-most-given : ShiftOf small 1 (holding 0x40000000 0x40000000 0x40000000 0x30000000) scratch 0 (Ok (pos 3))
unfolding place_of first_below all_below first_or rising
shift-most-given = (refl, refl)
