-- Document 02, Q-6, which amends demand 1, and Q-10: what is left of the scratch that a call is lent with a table.
use Rattle.std.specs.Prelude.{ℕ, ◌*◌, ◌<◌, ◌≤◌, ◌≡◌, List, length, take, drop, replicate}
use Rattle.paper.specs.Limits.{Size}
use Rattle.shape.specs.declared.Shape.{Shape}
use Rattle.shape.specs.Shapes.{Shaped}
use Rattle.layout.specs.Layouts.{Spared}
use Rattle.table.specs.Scratch.{Scratched}
use Rattle.reading.specs.Promises.{ReadScratched}

-- T × r: one number for each spare
abbrev pub numbers_for : Shape → ℕ → ℕ
numbers_for shape r = shape.cylinders * shape.heads * r

-- what a call leaves of its scratch; InRange says that the numbers of the drive which it looks at before the scratch are in their ranges
pub record LeavesScratch (InRange : Type 0) (shape : Shape) (r : ℕ) (before after : List ℕ) : Type 0 where
  -- one of them is out of range: the scratch is as it was
  pub out-of-range : (InRange → ⊥) → after ≡ before
  -- it has fewer numbers than T × r: it is as it was
  pub too_short : length before < numbers_for shape r → after ≡ before
  -- else, whether the call accepts or refuses, its first T × r numbers are zeros
  pub zeros : InRange → numbers_for shape r ≤ length before → take (numbers_for shape r) after ≡ replicate (numbers_for shape r) 0
  -- and the rest is as it was
  pub rest-stands : InRange → numbers_for shape r ≤ length before → drop (numbers_for shape r) after ≡ drop (numbers_for shape r) before

pub record Scratches : Type 0 where
  -- `Scratched` is the second promise of eight calls that are lent a table, `spares::sector_of`, `address_of`, `shift`, `block_on`, `block_at`, `replace` and `census`, and `reading::tracks`; so this holds of each of them: the shape and r are looked at before
  pub each-leaves : (shape : Shape) (r : ℕ) (before after : List ℕ) → Scratched shape r before after → LeavesScratch (Shaped shape × Spared shape r) shape r before after
  -- `ReadScratched` is that of the three reads, `reading::judge`, `data` and `spot`: the size, the shape and r are looked at before
  pub reads-leave :
      (size : ℕ) (shape : Shape) (r : ℕ) (before after : List ℕ) → ReadScratched size shape r before after →
      LeavesScratch (Size size × (Shaped shape × Spared shape r)) shape r before after
