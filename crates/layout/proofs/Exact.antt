-- The check of a drive gives exactly the numbers of its rows, and shows what it checks where it gives none.
-- Assumes nothing.
use Prim.Native.Nat.{ℕ, ◌<◌, ◌≤◌, ◌*◌}
use mathlib.Core.Path.{◌≡◌}
use native.Mathlib.Omega.{arith}
use Rattle.paper.specs.Refusals.{out_of_range}
use Rattle.paper.specs.Limits.{spares_most}
use Rattle.paper.specs.Exactly.{Exactly, When}
use Rattle.paper.proofs.Chain.{or_else-first, or_else-next}
use Rattle.paper.proofs.Rows.{Tells, tells-lt, tells-le, tells-not, tells_both, passed-shows, row, rows}
use Rattle.shape.specs.declared.Shape.{Shape}
use Rattle.shape.specs.Shapes.{Shaped, shape_fault, ShapeJudged}
use Rattle.shape.proofs.Exact.{tells-shaped, shape-shows, shape-exactly}
use Rattle.layout.specs.Layouts.{tracks_of, Spared, spared, drive_fault, DriveJudged}

module _ (shape : Shape) (r : ℕ) where
  pub tells-drives : Tells (spared shape r) (Spared shape r)
  tells-drives =
      record {
        holds = λ e. let h = ranges.holds e in record { some = h.0; fewer = h.1.0; fit = h.1.1 };
        told = λ d. ranges.told (d.some, (d.fewer, d.fit));
      }
    where
      ranges : Tells (spared shape r) ((1 ≤ r) × ((r < shape.sectors) × (tracks_of shape * r ≤ spares_most)))
      ranges = tells_both (tells-le 1 r) (tells_both (tells-lt r shape.sectors) (tells-le (tracks_of shape * r) spares_most))

  pub drive-shows : drive_fault shape r ≡ 0 → Shaped shape × Spared shape r
  drive-shows none = (
    shape-shows shape (or_else-first (shape_fault shape) _ none),
    passed-shows tells-drives out_of_range (omega arith) (or_else-next (shape_fault shape) _ none),
  )

  pub drive-passes : Shaped shape → Spared shape r → drive_fault shape r ≡ 0
  drive-passes in-range spares = rw ((tells-shaped shape).told in-range, tells-drives.told spares)

  pub drive-exactly : Exactly (DriveJudged shape r) (drive_fault shape r)
  drive-exactly = rows (ShapeJudged shape) (When out_of_range (Spared shape r → ⊥)) (shape-exactly shape) (row (tells-not tells-drives) out_of_range)
