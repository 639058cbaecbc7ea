-- The lowest number below a bound that passes a test, and the fault of the lowest number at fault.
use Rattle.std.specs.Prelude.{ℕ, zero, suc, ◌<◌, ◌≡◌, Bool}
use Rattle.paper.specs.Checks.{pick, ◌or_else◌}

-- the first that passes, or the bound where none does
unfoldable pub first_below : (ℕ → Bool) → ℕ → ℕ
first_below passes zero = 0
first_below passes (suc n) = pick (passes 0) 0 (suc (first_below (λ k. passes (suc k)) n))

-- the fault of the lowest number that has one, or 0 where none has
unfoldable pub fault_below : (ℕ → ℕ) → ℕ → ℕ
fault_below fault zero = 0
fault_below fault (suc n) = fault_below fault n or_else fault n

-- the same in propositions, where rows say the fault of each number: the fault of the lowest number that has one, or 0 where none has
pub data LowestAt (At : ℕ → ℕ → Type 0) (bound : ℕ) : ℕ → Type 0 where
  found : (i : ℕ) → i < bound → ((j : ℕ) → j < i → At j 0) → {k : ℕ} → (k ≡ 0 → ⊥) → At i k → LowestAt At bound k
  none : ((j : ℕ) → j < bound → At j 0) → LowestAt At bound 0
