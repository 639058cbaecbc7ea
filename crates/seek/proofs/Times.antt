-- The laws of how many times a number stands in a list: each place adds one or nothing, parts add up, two numbers share no place, and a number stands somewhere exactly where it is counted.
-- Assumes nothing.
use Prim.Native.Nat.{ℕ, zero, suc, ◌+◌, ◌<◌, ◌≤◌}
use mathlib.Core.Path.{◌≡◌, refl, sym, ◌∙◌}
use mathlib.Core.Logic.{⊎_elim}
use mathlib.Core.List.Memᴰ
use mathlib.Core.List.{List, [], ◌∷◌, ◌++◌, Memᴰ}
use native.Mathlib.Omega.{arith}
use native.Mathlib.Nat.{zero-add, add_assoc}
use lib.Dec.{eqb}
use lib.ListN.{length, replicate}
use borrow.Author.Tests.{eq-eqb, ne_eqb}
use Rattle.paper.specs.Checks.{one_if}
use Rattle.paper.proofs.Cases.{by_eq}
use Rattle.seek.specs.Count.{times}

pub times_more : (number x : ℕ) (list : List ℕ) → x ≡ number → times number (x ∷ list) ≡ suc (times number list)
unfolding times
times_more number x list same = rw (eq-eqb x number same) (omega arith)

pub times-same : (number x : ℕ) (list : List ℕ) → (x ≡ number → ⊥) → times number (x ∷ list) ≡ times number list
unfolding times
times-same number x list other = rw (ne_eqb x number other) (omega arith)

pub times_none : (number : ℕ) → times number [] ≡ 0
unfolding times
times_none number = refl

pub times-le : (number : ℕ) (list : List ℕ) → times number list ≤ length list
times-le number [] = rw (times_none number) (omega arith)
times-le number (x ∷ list) =
    by_eq x number
    (λ same. omega (arith, times_more number x list same, times-le number list))
    (λ other. omega (arith, times-same number x list other, times-le number list))

-- two numbers share no place
pub times-apart : (m n : ℕ) (list : List ℕ) → (m ≡ n → ⊥) → times m list + times n list ≤ length list
times-apart m n [] apart = omega (arith, times_none m, times_none n)
times-apart m n (x ∷ list) apart =
    by_eq x m
    (λ same. omega (arith, times_more m x list same, times-same n x list (λ e. apart (sym same ∙ e)), times-apart m n list apart))
    (λ other.
    by_eq x n
    (λ same. omega (arith, times-same m x list other, times_more n x list same, times-apart m n list apart))
    (λ neither. omega (arith, times-same m x list other, times-same n x list neither, times-apart m n list apart)))

pub times-all : (number count : ℕ) → times number (replicate count number) ≡ count
times-all number zero = times_none number
times-all number (suc count) = times_more number number (replicate count number) refl ∙ omega (arith, times-all number count)

pub times-append : (number : ℕ) (xs ys : List ℕ) → times number (xs ++ ys) ≡ times number xs + times number ys
unfolding times
times-append number [] ys = sym (zero-add (times number ys))
times-append number (x ∷ xs) ys = rw (times-append number xs ys) (sym (add_assoc (one_if (eqb x number)) (times number xs) (times number ys)))

-- a number that stands somewhere is counted, and one that is counted stands somewhere
pub member-counts : (number : ℕ) (xs : List ℕ) → Memᴰ number xs → 0 < times number xs
member-counts number [] m = absurd (Memᴰ.not-nil m)
member-counts number (x ∷ xs) m =
    by_eq x number
    (λ e. omega (arith, times_more number x xs e))
    (λ e.
    ⊎_elim
    (λ same. absurd (e (sym same)))
    (λ later. omega (arith, times-same number x xs e, member-counts number xs later))
    (Memᴰ.cases_cons m))

pub counts-member : (number : ℕ) (xs : List ℕ) → 0 < times number xs → Memᴰ number xs
counts-member number [] some = absurd (omega (arith, times_none number))
counts-member number (x ∷ xs) some =
    by_eq x number
    (λ e. Memᴰ.head (sym e))
    (λ e. Memᴰ.tail (counts-member number xs (omega (arith, times-same number x xs e))))
