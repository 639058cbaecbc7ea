-- Case splits that hand over the equation or the order that each case knows.
-- Assumes nothing.
use Prim.Native.Nat.{ℕ, ◌<◌, ◌≤◌}
use mathlib.Core.Path.{◌≡◌, refl}
use mathlib.Core.Bool.{Bool, true, false}
use lib.Dec.{ltb, eqb}
use borrow.Author.Tests.{ltb-true, ltb-false, eqb-true, eqb-false}

module _ {ℓ} {G : Type ℓ} where
  pub by_bool : (t : Bool) → (t ≡ true → G) → (t ≡ false → G) → G
  by_bool true yes' no' = yes' refl
  by_bool false yes' no' = no' refl

  pub by_lt : (a b : ℕ) → (a < b → G) → (b ≤ a → G) → G
  by_lt a b less more = by_bool (ltb a b) (λ e. less (ltb-true a b e)) (λ e. more (ltb-false a b e))

  pub by_eq : (a b : ℕ) → (a ≡ b → G) → ((a ≡ b → ⊥) → G) → G
  by_eq a b same other = by_bool (eqb a b) (λ e. same (eqb-true a b e)) (λ e. other (eqb-false a b e))

  -- a fault or none
  pub by_fault : (fault : ℕ) → (fault ≡ 0 → G) → ((fault ≡ 0 → ⊥) → G) → G
  by_fault fault none some = by_eq fault 0 none some
