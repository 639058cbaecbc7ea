-- How checks follow one another. A fault is the paper's number, and 0 is no fault.
use Rattle.std.specs.Prelude.{ℕ, zero, suc, Bool, true, false}

-- the first where the test holds, else the second
abbrev pub pick {ℓ} : {X : Type ℓ} → Bool → X → X → X
pick true x y = x
pick false x y = y

-- 1 where the test holds, else 0
abbrev pub one_if : Bool → ℕ
one_if test = pick test 1 0

-- one check: its number where the test holds
abbrev pub refuse : Bool → ℕ → ℕ
refuse test number = pick test number 0

-- checks in their order: the first one's number, or the next one's where the first finds no fault
infixr 20 ◌or_else◌
abbrev pub ◌or_else◌ : ℕ → ℕ → ℕ
zero or_else next = next
suc fault or_else next = suc fault

-- what a call answers: a refusal made of the fault's number, or the answer where there is no fault
abbrev pub answer {ℓ} : {X : Type ℓ} → ℕ → (ℕ → X) → X → X
answer zero refused accepted = accepted
answer (suc fault) refused accepted = refused (suc fault)
