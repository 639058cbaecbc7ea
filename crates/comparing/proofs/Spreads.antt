-- The laws of evenly spread numbers: what is left of them after the first, and a room that is being filled with them.
-- Assumes nothing.
use Prim.Native.Nat.{ℕ, zero, suc, ◌+◌, ◌*◌, ◌-◌, ◌<◌, ◌≤◌}
use mathlib.Core.Path.{◌≡◌, refl, ◌∙◌, ap}
use mathlib.Core.List.{List, [], ◌∷◌, append-nil}
use native.Mathlib.Nat.{sub-zero, mul-zero, mul-suc, mul-le-mul_left}
use native.Mathlib.Numerals.{add-one}
use native.Mathlib.Omega.{arith}
use lib.ListN.{length, set}
use Rattle.seek.proofs.Drops.{drop_past}
use Rattle.lists.proofs.Filling.{Filled, filled_none, filled_more, filled-all}
use Rattle.comparing.specs.Spread.{spread}

pub length-spread : (first gap count : ℕ) → length (spread first gap count) ≡ count
unfolding spread
length-spread first gap zero = refl
length-spread first gap (suc count) = ap suc (length-spread (first + gap) gap count)

spread-next : (first gap count rest : ℕ) → count ≡ rest + 1 → spread first gap count ≡ first ∷ spread (first + gap) gap rest
unfolding spread
spread-next first gap count rest one = rw (one, add-one rest)

spread_none : (first gap count : ℕ) → count ≡ 0 → spread first gap count ≡ []
unfolding spread
spread_none first gap count none = rw none

gap_more : (gap i : ℕ) → gap * (i + 1) ≡ gap * i + gap
gap_more gap i = rw (add-one i) (mul-suc gap i)

-- the places passed hold the first numbers, and the next is the first of those to come
pub record Spreading (first gap : ℕ) (before room : List ℕ) (next i : ℕ) : Type 0 where
  pub within : i ≤ length before
  pub comes : next ≡ first + gap * i
  pub filled : Filled (spread first gap (length before)) (spread next gap (length before - i)) before room i

module _ (first gap : ℕ) (before : List ℕ) where
  pub spreading-none : Spreading first gap before before first 0
  spreading-none =
      record {
        within = omega arith;
        comes = omega (arith, mul-zero gap);
        filled = rw (sub-zero (length before)) (filled_none _ before (omega (arith, length-spread first gap (length before))));
      }

module _ {first gap : ℕ} {before room : List ℕ} {next i : ℕ} (spreading : Spreading first gap before room next i) where
  pub spreading-fits : i < length before → next + gap ≤ first + gap * length before
  spreading-fits more = omega (arith, spreading.comes, gap_more gap i, mul-le-mul_left gap more, mul-suc gap i)

  pub spreading-more : i < length before → Spreading first gap before (set room i next) (next + gap) (i + 1)
  spreading-more more =
      record {
        within = omega arith;
        comes = omega (arith, spreading.comes, gap_more gap i);
        filled = filled_more next (spread (next + gap) gap (length before - (i + 1))) (spread-next next gap (length before - i) (length before - (i + 1)) (omega arith)) spreading.filled;
      }

  pub spreading-all : length before ≤ i → room ≡ spread first gap (length before)
  spreading-all all = filled-all (spread_none next gap (length before - i) (omega arith)) spreading.filled ∙ rw (drop_past before (length (spread first gap (length before))) (omega (arith, length-spread first gap (length before)))) (append-nil _)
