-- The laws of "every number below a bound passes": it holds exactly where each one does.
-- Assumes nothing.
use Prim.Native.Nat.{ℕ, zero, suc, ◌<◌}
use mathlib.Core.Path.{◌≡◌, refl, sym, ◌∙◌, ap}
use mathlib.Core.Bool.{Bool, true, false, true≢false}
use native.Mathlib.Omega.{arith}
use Rattle.paper.proofs.Cases.{by_bool, by_eq}
use Rattle.paper.proofs.Rows.{and_left, and_right}
use Rattle.seek.specs.Every.{all_below}

module _ (passes : ℕ → Bool) where
  pub every_here : (n : ℕ) → all_below passes n ≡ true → (k : ℕ) → k < n → passes k ≡ true
  unfolding all_below
  every_here zero e k h = absurd (omega arith)
  every_here (suc n) e k h =
      by_eq k n
      (λ same. ap passes same ∙ and_right (all_below passes n) (passes n) e)
      (λ other. every_here n (and_left (all_below passes n) (passes n) e) k (omega arith))

  pub here-every : (n : ℕ) → ((k : ℕ) → k < n → passes k ≡ true) → all_below passes n ≡ true
  unfolding all_below
  here-every zero all = refl
  here-every (suc n) all = rw (here-every n (λ k h. all k (omega arith)), all n (omega arith))

  -- one that fails is enough
  pub every-fails : (n k : ℕ) → k < n → passes k ≡ false → all_below passes n ≡ false
  every-fails n k h e = by_bool (all_below passes n) (λ all. absurd (true≢false (sym (every_here n all k h) ∙ e))) (λ none. none)

  -- where not every number passes, there is one that does not
  pub record Fails (n : ℕ) : Type 0 where
    pub place : ℕ
    pub below : place < n
    pub here : passes place ≡ false

  pub one-fails : (n : ℕ) → all_below passes n ≡ false → Fails n
  unfolding all_below
  one-fails zero e = absurd (true≢false e)
  one-fails (suc n) e =
      by_bool (passes n)
      (λ here.
      by_bool (all_below passes n)
      (λ all. absurd (true≢false (rw (all, here) at e)))
      (λ none. let found : Fails n = one-fails n none in record { place = found.place; below = omega (arith, found.below); here = found.here }))
      (λ fails. record { place = n; below = omega arith; here = fails })

pub every-alike : (first second : ℕ → Bool) (n : ℕ) → ((k : ℕ) → k < n → first k ≡ second k) → all_below first n ≡ all_below second n
unfolding all_below
every-alike first second zero alike = refl
every-alike first second (suc n) alike = rw (every-alike first second n (λ k h. alike k (omega arith)), alike n (omega arith))
