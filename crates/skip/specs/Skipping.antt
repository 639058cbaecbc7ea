-- Document 01, "Skipping", over any units and any test of which units are bad.
use Rattle.std.specs.Prelude.{ℕ, ◌<◌, ◌≡◌, Bool, false, not, ◌&&◌, ◌||◌, List, map, eqb}
use Rattle.seek.specs.Count.{count_below}
use Rattle.seek.specs.Lowest.{first_below}
use Rattle.lists.specs.Union.{is_in}

-- how many of the units before s are good
unfoldable pub goods_before : (ℕ → Bool) → ℕ → ℕ
goods_before bad s = count_below (λ t. not (bad t)) s

-- block b lies on the unit s of n: s is good and has exactly b good units before it
pub record Lies (bad : ℕ → Bool) (n b s : ℕ) : Type 0 where
  pub inside : s < n
  pub good : bad s ≡ false
  pub before : goods_before bad s ≡ b

-- the unit of n that is good and has exactly b good units before it, or n where there is none
unfoldable pub place : (ℕ → Bool) → ℕ → ℕ → ℕ
place bad n b = first_below (λ s. not (bad s) && eqb (goods_before bad s) b) n

-- which units are bad once the blocks that `more` names are bad too
abbrev pub after : (ℕ → Bool) → (ℕ → Bool) → ℕ → Bool
after bad more s = bad s || more (goods_before bad s)

-- the sectors of a list of blocks, on n sectors with bad list a
abbrev pub sectors_of_blocks : ℕ → List ℕ → List ℕ → List ℕ
sectors_of_blocks n a blocks = map (place (is_in a) n) blocks
