-- The laws of counting: it grows by what passes, parts add up, and equal tests count alike.
-- Assumes nothing.
use Prim.Native.Nat.{ℕ, zero, suc, ◌+◌, ◌-◌, ◌<◌, ◌≤◌}
use mathlib.Core.Path.{◌≡◌, refl, sym, ◌∙◌, ap}
use mathlib.Core.Bool.{Bool, true, false, not}
use native.Mathlib.Omega.{arith}
use native.Mathlib.Nat.{add-zero, add-suc}
use Rattle.paper.specs.Checks.{pick}
use Rattle.paper.proofs.Cases.{by_bool, by_eq}
use Rattle.seek.specs.Count.{count_below}

module _ (passes : ℕ → Bool) where
  pub count-zero : count_below passes 0 ≡ 0
  unfolding count_below
  count-zero = refl

  pub count-more : (n : ℕ) → passes n ≡ true → count_below passes (suc n) ≡ suc (count_below passes n)
  unfolding count_below
  count-more n e = rw e (omega arith)

  pub count_same : (n : ℕ) → passes n ≡ false → count_below passes (suc n) ≡ count_below passes n
  unfolding count_below
  count_same n e = rw e (omega arith)

  pub count-le : (n : ℕ) → count_below passes n ≤ n
  count-le zero = omega (arith, count-zero)
  count-le (suc n) =
      by_bool (passes n)
      (λ e. omega (arith, count-more n e, count-le n))
      (λ e. omega (arith, count_same n e, count-le n))

  pub count_none : (n : ℕ) → ((k : ℕ) → k < n → passes k ≡ false) → count_below passes n ≡ 0
  count_none zero none = count-zero
  count_none (suc n) none = count_same n (none n (omega arith)) ∙ count_none n (λ k h. none k (omega arith))

  -- numbers that pass and numbers that do not are all numbers
  pub count-not : (n : ℕ) → count_below passes n + count_below (λ k. not (passes k)) n ≡ n
  unfolding count_below
  count-not zero = refl
  count-not (suc n) = by_bool (passes n) (λ e. rw e (omega (arith, count-not n))) (λ e. rw e (omega (arith, count-not n)))

  -- a part of the numbers seen by itself
  pub count_add : (base n : ℕ) → count_below passes (base + n) ≡ count_below passes base + count_below (λ k. passes (base + k)) n
  unfolding count_below
  count_add base zero = rw (add-zero base) (omega arith)
  count_add base (suc n) = rw (add-suc base n) (omega (arith, count_add base n))

pub count-mono : (passes : ℕ → Bool) (m n : ℕ) → m ≤ n → count_below passes m ≤ count_below passes n
count-mono passes m n h =
    let e : m + (n - m) ≡ n = omega arith in
    omega (arith, rw e at (count_add passes m (n - m)))

-- a number that passes is counted from the next bound on
pub count-strict : (passes : ℕ → Bool) (m n : ℕ) → m < n → passes m ≡ true → count_below passes m < count_below passes n
count-strict passes m n h e = omega (arith, count-more passes m e, count-mono passes (suc m) n h)

pub count-alike : (first second : ℕ → Bool) (n : ℕ) → ((k : ℕ) → k < n → first k ≡ second k) → count_below first n ≡ count_below second n
unfolding count_below
count-alike first second zero alike = refl
count-alike first second (suc n) alike =
    rw (alike n (omega arith)) (ap (λ (k : ℕ). k + pick (second n) 1 0) (count-alike first second n (λ k h. alike k (omega arith))))

-- tests that agree but at one number count alike but for it
pub count-but-one :
    (first second : ℕ → Bool) (n q : ℕ) → q < n → ((k : ℕ) → k < n → (k ≡ q → ⊥) → first k ≡ second k) →
    count_below first n + pick (second q) 1 0 ≡ count_below second n + pick (first q) 1 0
unfolding count_below
count-but-one first second zero q h alike = absurd (omega arith)
count-but-one first second (suc n) q h alike =
    by_eq q n
    (λ same. rw same (omega (arith, count-alike first second n (λ k l. alike k (omega arith) (λ here. omega arith)))))
    (λ other.
    rw (alike n (omega arith) (λ here. other (sym here)))
    (omega (arith, count-but-one first second n q (omega arith) (λ k l away. alike k (omega arith) away))))
