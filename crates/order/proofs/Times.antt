-- How often a number stands in a rising run and in a moved list.
-- Assumes nothing.
use Prim.Native.Nat.{ℕ, zero, suc, ◌+◌, ◌-◌, ◌<◌, ◌≤◌}
use mathlib.Core.Path.{◌≡◌, refl, sym, ◌∙◌}
use mathlib.Core.List.{List, [], ◌∷◌, map}
use native.Mathlib.Omega.{arith}
use native.Mathlib.Nat.{add-zero, zero-add, add-suc, suc-add}
use lib.Dec.{ltb, eqb}
use borrow.Author.Tests.{lt-ltb, le-ltb, eq-eqb, ne_eqb}
use Rattle.paper.specs.Checks.{one_if}
use Rattle.paper.proofs.Cases.{by_lt, by_eq}
use Rattle.seek.specs.Count.{times}
use Rattle.seek.specs.Search.{rising}

-- 1 where two numbers are the same, and 1 where the first is below the second
abbrev pub same : ℕ → ℕ → ℕ
same q x = one_if (eqb x q)

abbrev pub below : ℕ → ℕ → ℕ
below q n = one_if (ltb q n)

pub same-yes : (q x : ℕ) → q ≡ x → same q x ≡ 1
same-yes q x e = rw (eq-eqb x q (sym e))

pub same-no : (q x : ℕ) → (q ≡ x → ⊥) → same q x ≡ 0
same-no q x e = rw (ne_eqb x q (λ f. e (sym f)))

pub below-yes : (q n : ℕ) → q < n → below q n ≡ 1
below-yes q n h = rw (lt-ltb q n h)

pub below-no : (q n : ℕ) → n ≤ q → below q n ≡ 0
below-no q n h = rw (le-ltb q n h)

pub same_alike : (q x r y : ℕ) → (q ≡ x → r ≡ y) → (r ≡ y → q ≡ x) → same q x ≡ same r y
same_alike q x r y there back =
    by_eq q x
    (λ e. same-yes q x e ∙ sym (same-yes r y (there e)))
    (λ e. same-no q x e ∙ sym (same-no r y (λ f. e (back f))))

-- a bound that is one more lets in the bound itself
pub below_more : (q n : ℕ) → same q n + below q n ≡ below q (suc n)
below_more q n =
    by_eq q n
    (λ e. omega (arith, same-yes q n e, below-no q n (omega arith), below-yes q (suc n) (omega arith)))
    (λ e.
    by_lt q n
    (λ h. omega (arith, same-no q n e, below-yes q n h, below-yes q (suc n) (omega arith)))
    (λ h. omega (arith, same-no q n e, below-no q n h, below-no q (suc n) (omega arith))))

-- a rising run has each number from its first to its last once
pub rising-once : (q first count : ℕ) → times q (rising first count) + below q first ≡ below q (first + count)
unfolding times rising
rising-once q first zero = rw (add-zero first) (zero-add (below q first))
rising-once q first (suc count) =
    rw (add-suc first count, ← suc-add first count)
    (omega (arith, rising-once q (suc first) count, below_more q first))

-- a list moved by a base has what it had, moved
pub moved-once : (q base : ℕ) (xs : List ℕ) → base ≤ q → times q (map (λ (k : ℕ). base + k) xs) ≡ times (q - base) xs
unfolding times
moved-once q base [] h = refl
moved-once q base (x ∷ xs) h =
    rw (moved-once q base xs h, same_alike q (base + x) (q - base) x (λ e. omega arith) (λ e. omega arith))

pub moved_none : (q base : ℕ) (xs : List ℕ) → q < base → times q (map (λ (k : ℕ). base + k) xs) ≡ 0
unfolding times
moved_none q base [] h = refl
moved_none q base (x ∷ xs) h = rw (moved_none q base xs h, same-no q (base + x) (λ e. omega arith))
