-- For the code alone: no sentence of the paper needs it.
-- How far the code looks for copies, and how it answers a size or none.
use Rattle.std.specs.Prelude.{ℕ, ◌/◌, ◌≡◌, List, Option, None, Some, ltb, length}
use Rattle.paper.specs.Checks.{pick}
use Rattle.words.specs.Coded.{code_unit}
use Rattle.mode.specs.Modes.{xbn_bytes}

-- how many whole sector images there are, but no more than a header has numbers for
abbrev pub headable : List ℕ → ℕ
headable images = pick (ltb (length images / xbn_bytes) code_unit) (length images / xbn_bytes) code_unit

-- a size is answered where there is one, and nothing where the definition says 0
abbrev pub IfSaid : ℕ → Option ℕ → Type 0
IfSaid size (Some said) = (said ≡ size) × (size ≡ 0 → ⊥)
IfSaid size None = size ≡ 0
