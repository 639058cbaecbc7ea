-- Document 01, "Descriptors and spares": the shift from home to spare.
use Rattle.std.specs.Prelude.{ℕ, List, ℤ, pos, ◌-ℤ◌}
use Rattle.paper.specs.Checks.{pick}
use Rattle.layout.specs.declared.Drive.{Drive}
use Rattle.layout.specs.Layouts.{home_cylinder, spare_cylinder}
use Rattle.table.specs.Lookup.{place_of, is_replaced}

-- the cylinder of the spare less that of the home, and 0 for a block at home
abbrev pub shift_of : Drive → List ℕ → ℕ → ℤ
shift_of drive t b = pick (is_replaced t b) (pos (spare_cylinder drive (place_of t b)) -ℤ pos (home_cylinder drive b)) (pos 0)
