-- Document 01, "Numbers", and document 02, Q-9: the shape of a drive, its ranges, its groups of heads, and N.
use Rattle.std.specs.Prelude.{ℕ, ◌*◌, ◌<◌, ◌≡◌, Bool, not, ◌&&◌, eqb, ltb}
use Rattle.paper.specs.Checks.{refuse}
use Rattle.paper.specs.Refusals.{out_of_range}
use Rattle.paper.specs.Limits.{Within, within, cylinders_most, heads_most, sectors_least, sectors_most}
use Rattle.paper.specs.Exactly.{When}
use Rattle.shape.specs.declared.Shape.{Shape}

-- N = C × H × S
abbrev pub size_of : Shape → ℕ
size_of shape = shape.cylinders * shape.heads * shape.sectors

-- the heads are g groups of t tracks, and each group starts 0 to S − 1 sectors after the one before it; the ranges of g and t follow from the product
pub record Grouped (shape : Shape) : Type 0 where
  pub groups : Within 1 heads_most shape.groups
  pub tracks : Within 1 heads_most shape.tracks
  pub all-heads : shape.groups * shape.tracks ≡ shape.heads
  pub offset : shape.offset < shape.sectors

-- whether they are
abbrev pub grouped : Shape → Bool
grouped shape =
    within 1 heads_most shape.groups
    && (within 1 heads_most shape.tracks && (eqb (shape.groups * shape.tracks) shape.heads && ltb shape.offset shape.sectors))

-- cylinders, heads and sectors of a track lie each in its range, and the heads are grouped
pub record Shaped (shape : Shape) : Type 0 where
  pub cylinders : Within 1 cylinders_most shape.cylinders
  pub heads : Within 1 heads_most shape.heads
  pub sectors : Within sectors_least sectors_most shape.sectors
  pub groups : Grouped shape

-- whether they do
abbrev pub shaped : Shape → Bool
shaped shape =
    within 1 cylinders_most shape.cylinders
    && (within 1 heads_most shape.heads && (within sectors_least sectors_most shape.sectors && grouped shape))

-- check 1 for a shape
abbrev pub shape_fault : Shape → ℕ
shape_fault shape = refuse (not (shaped shape)) out_of_range

-- exactly when 1 is given for a shape
abbrev pub ShapeJudged : Shape → ℕ → Type 0
ShapeJudged shape = When out_of_range (Shaped shape → ⊥)
