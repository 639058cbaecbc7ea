-- The laws of a search: what it finds passes, nothing before it does, and only it is so; and the same for faults.
-- Assumes nothing.
use Prim.Native.Nat.{ℕ, zero, suc, ◌<◌, ◌≤◌}
use mathlib.Core.Path.{◌≡◌, refl, sym, ◌∙◌, ap}
use mathlib.Core.Bool.{Bool, true, false}
use native.Mathlib.Omega.{arith}
use Rattle.paper.specs.Checks.{pick, ◌or_else◌}
use Rattle.paper.proofs.Cases.{by_bool, by_eq, by_fault}
use Rattle.paper.proofs.Chain.{or_else-some, or_else-none, or_else-first, or_else-next}
use Rattle.paper.specs.Exactly.{Exactly}
use Rattle.seek.specs.Lowest.{first_below, fault_below, LowestAt}

-- the only number below n that passes with none before it
pub first-is :
    (passes : ℕ → Bool) (n s : ℕ) → s < n → passes s ≡ true → ((k : ℕ) → k < s → passes k ≡ false) → first_below passes n ≡ s
unfolding first_below
first-is passes zero s h here before = absurd (omega arith)
first-is passes (suc n) zero h here before = rw here
first-is passes (suc n) (suc s) h here before =
    rw (before 0 (omega arith))
    (ap suc (first-is (λ k. passes (suc k)) n s (omega arith) here (λ k l. before (suc k) (omega arith))))

pub first-none : (passes : ℕ → Bool) (n : ℕ) → ((k : ℕ) → k < n → passes k ≡ false) → first_below passes n ≡ n
unfolding first_below
first-none passes zero none = refl
first-none passes (suc n) none =
    rw (none 0 (omega arith)) (ap suc (first-none (λ k. passes (suc k)) n (λ k l. none (suc k) (omega arith))))

-- what is found is no more than the bound, passes where it is below it, and nothing before it passes
pub first-le : (passes : ℕ → Bool) (n : ℕ) → first_below passes n ≤ n
unfolding first_below
first-le passes zero = omega arith
first-le passes (suc n) = by_bool (passes 0) (λ e. rw e (omega arith)) (λ e. rw e (omega (arith, first-le (λ k. passes (suc k)) n)))

pub first_passes : (passes : ℕ → Bool) (n : ℕ) → first_below passes n < n → passes (first_below passes n) ≡ true
unfolding first_below
first_passes passes zero h = absurd (omega arith)
first_passes passes (suc n) h =
    by_bool (passes 0)
    (λ e. rw e e)
    (λ e. let found : suc (first_below (λ k. passes (suc k)) n) < suc n = rw e at h in rw e (first_passes (λ k. passes (suc k)) n (omega arith)))

pub first-before : (passes : ℕ → Bool) (n k : ℕ) → k < first_below passes n → passes k ≡ false
unfolding first_below
first-before passes zero k h = absurd (omega arith)
first-before passes (suc n) zero h = by_bool (passes 0) (λ e. let none : 0 < 0 = rw e at h in absurd (omega arith)) (λ e. e)
first-before passes (suc n) (suc k) h =
    by_bool (passes 0)
    (λ e. let none : suc k < 0 = rw e at h in absurd (omega arith))
    (λ e. let more : suc k < suc (first_below (λ k. passes (suc k)) n) = rw e at h in first-before (λ k. passes (suc k)) n k (omega arith))

pub first_alike :
    (first second : ℕ → Bool) (n : ℕ) → ((k : ℕ) → k < n → first k ≡ second k) → first_below first n ≡ first_below second n
unfolding first_below
first_alike first second zero alike = refl
first_alike first second (suc n) alike =
    rw (alike 0 (omega arith))
    (ap (λ (k : ℕ). pick (second 0) 0 (suc k))
    (first_alike (λ k. first (suc k)) (λ k. second (suc k)) n (λ k l. alike (suc k) (omega arith))))

module _ (fault : ℕ → ℕ) where
  -- no fault below n
  pub fault-none : (n : ℕ) → ((k : ℕ) → k < n → fault k ≡ 0) → fault_below fault n ≡ 0
  unfolding fault_below
  fault-none zero none = refl
  fault-none (suc n) none = rw (fault-none n (λ k l. none k (omega arith))) (none n (omega arith))

  pub fault-clean : (n : ℕ) → fault_below fault n ≡ 0 → (k : ℕ) → k < n → fault k ≡ 0
  unfolding fault_below
  fault-clean zero e k h = absurd (omega arith)
  fault-clean (suc n) e k h =
      by_eq k n
      (λ same. ap fault same ∙ or_else-next (fault_below fault n) (fault n) e)
      (λ other. fault-clean n (or_else-first (fault_below fault n) (fault n) e) k (omega arith))

  -- the fault of the lowest place at fault
  pub fault-at : (n s : ℕ) → s < n → (fault s ≡ 0 → ⊥) → ((k : ℕ) → k < s → fault k ≡ 0) → fault_below fault n ≡ fault s
  unfolding fault_below
  fault-at zero s h some before = absurd (omega arith)
  fault-at (suc n) s h some before =
      by_eq s n
      (λ same. rw (or_else-none (fault_below fault n) (fault n) (fault-none n (λ k l. before k (omega arith)))) (ap fault (sym same)))
      (λ other.
      let e : fault_below fault n ≡ fault s = fault-at n s (omega arith) some before in
      or_else-some (fault_below fault n) (fault n) (λ none. some (sym e ∙ none)) ∙ e)

-- rows that say the fault of each number give that of the lowest one at fault, and no other
module _ (At : ℕ → ℕ → Type 0) (fault : ℕ → ℕ) where
  lowest-judged : (bound : ℕ) → ((i : ℕ) → i < bound → Exactly (At i) (fault i)) → LowestAt At bound (fault_below fault bound)
  unfolding fault_below
  lowest-judged zero exact = LowestAt.none (λ j h. absurd (omega arith))
  lowest-judged (suc bound) exact = onward (fault_below fault bound) refl (lowest-judged bound (λ i h. exact i (omega arith)))
    where
      onward : (k : ℕ) → fault_below fault bound ≡ k → LowestAt At bound k → LowestAt At (suc bound) (k or_else fault bound)
      onward k is (LowestAt.found i h before some here) = rw (or_else-some k (fault bound) some) (LowestAt.found i (omega arith) before some here)
      onward k is (LowestAt.none all) =
          by_fault (fault bound)
          (λ clean. rw clean (LowestAt.none (every clean)))
          (λ some. LowestAt.found bound (omega arith) all some (exact bound (omega arith)).judged)
        where
          every : fault bound ≡ 0 → (j : ℕ) → j < suc bound → At j 0
          every clean j h = by_eq j bound (λ same. rw (same, ← clean) (exact bound (omega arith)).judged) (λ other. all j (omega arith))

  pub lowest-exactly : (bound : ℕ) → ((i : ℕ) → i < bound → Exactly (At i) (fault i)) → Exactly (LowestAt At bound) (fault_below fault bound)
  lowest-exactly bound exact = record { judged = lowest-judged bound exact; only = only_one }
    where
      clean : (j : ℕ) → j < bound → At j 0 → fault j ≡ 0
      clean j h at = (exact j h).only 0 at

      only_one : (k : ℕ) → LowestAt At bound k → fault_below fault bound ≡ k
      only_one k (LowestAt.found i h before some here) =
          let is : fault i ≡ k = (exact i h).only k here in
          fault-at fault bound i h (λ none. some (sym is ∙ none)) (λ j l. clean j (omega arith) (before j l)) ∙ is
      only_one k (LowestAt.none all) = fault-none fault bound (λ j h. clean j h (all j h))
