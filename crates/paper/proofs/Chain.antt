-- The laws of a chain of checks: which number it gives, and what it answers.
-- Assumes nothing.
use Prim.Native.Nat.{ℕ, zero, suc}
use mathlib.Core.Path.{◌≡◌, refl}
use native.Mathlib.Omega.{arith}
use Rattle.paper.specs.Checks.{◌or_else◌, answer}

pub or_else-some : (fault next : ℕ) → (fault ≡ 0 → ⊥) → (fault or_else next) ≡ fault
or_else-some zero next some = absurd (some refl)
or_else-some (suc fault) next some = refl

pub or_else-none : (fault next : ℕ) → fault ≡ 0 → (fault or_else next) ≡ next
or_else-none fault next none = rw none

pub or_else-assoc : (a b c : ℕ) → ((a or_else b) or_else c) ≡ (a or_else (b or_else c))
or_else-assoc zero b c = refl
or_else-assoc (suc a) b c = refl

-- a chain finds no fault only where none of its checks does
pub or_else-first : (fault next : ℕ) → (fault or_else next) ≡ 0 → fault ≡ 0
or_else-first zero next none = refl
or_else-first (suc fault) next none = none

pub or_else-next : (fault next : ℕ) → (fault or_else next) ≡ 0 → next ≡ 0
or_else-next zero next none = none
or_else-next (suc fault) next none = absurd (omega arith)

module _ {ℓ} {X : Type ℓ} where
  pub answer-refused : (fault : ℕ) (refused : ℕ → X) (accepted : X) → (fault ≡ 0 → ⊥) → answer fault refused accepted ≡ refused fault
  answer-refused zero refused accepted some = absurd (some refl)
  answer-refused (suc fault) refused accepted some = refl

  pub answer-accepted : (fault : ℕ) (refused : ℕ → X) (accepted : X) → fault ≡ 0 → answer fault refused accepted ≡ accepted
  answer-accepted fault refused accepted none = rw none
