-- When a refusal number is given, in propositions: one row of the paper's table, rows in their order, and what it means that a number is the only one given.
use Rattle.std.specs.Prelude.{ℕ, ◌≡◌}

-- one row of the table: the number exactly when its condition holds, else 0
pub data When (number : ℕ) (Fault : Type 0) : ℕ → Type 0 where
  given : Fault → When number Fault number
  passed : (Fault → ⊥) → When number Fault 0

-- rows in the order of checks: an earlier row's number, or a later row's where no earlier one refuses
infixr 20 ◌and_then◌
pub data ◌and_then◌ (First Next : ℕ → Type 0) : ℕ → Type 0 where
  earlier : {k : ℕ} → (k ≡ 0 → ⊥) → First k → (First and_then Next) k
  later : {k : ℕ} → First 0 → Next k → (First and_then Next) k

-- the number satisfies the relation, and no other does
pub record Exactly (Rows : ℕ → Type 0) (number : ℕ) : Type 0 where
  pub judged : Rows number
  pub only : (k : ℕ) → Rows k → number ≡ k
