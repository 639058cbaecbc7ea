-- A range of units of a larger space, seen by itself: its blocks are those of the space from the range's first block on.
-- Assumes nothing.
use Prim.Native.Nat.{ℕ, ◌+◌, ◌<◌, ◌≤◌}
use mathlib.Core.Path.{◌≡◌, ◌∙◌, ap}
use mathlib.Core.Bool.{Bool, not}
use native.Mathlib.Omega.{arith}
use Rattle.seek.proofs.Counts.{count_add}
use Rattle.skip.specs.Skipping.{goods_before, Lies, place}
use Rattle.skip.proofs.Lying.{lies-place, place-lies}

-- the range's own test
abbrev pub from_base : (ℕ → Bool) → ℕ → ℕ → Bool
from_base bad base t = bad (base + t)

module _ (bad : ℕ → Bool) (base : ℕ) where
  pub goods-range : (t : ℕ) → goods_before bad (base + t) ≡ goods_before bad base + goods_before (from_base bad base) t
  unfolding goods_before
  goods-range t = count_add (λ u. not (bad u)) base t

  module _ (m n : ℕ) (fits : base + m ≤ n) where
    pub range-lies : (b t : ℕ) → Lies (from_base bad base) m b t → Lies bad n (goods_before bad base + b) (base + t)
    range-lies b t lies =
        record {
          inside = omega (arith, lies.inside);
          good = lies.good;
          before = goods-range t ∙ ap (λ (k : ℕ). goods_before bad base + k) lies.before;
        }

    pub range-place : (b : ℕ) → b < goods_before (from_base bad base) m → place bad n (goods_before bad base + b) ≡ base + place (from_base bad base) m b
    range-place b h = lies-place bad n _ _ (range-lies b _ (place-lies (from_base bad base) m b h))
