-- Every number of a range passes a test exactly where every number below its end does.
-- Assumes nothing.
use Prim.Native.Nat.{ℕ, zero, suc, ◌+◌}
use mathlib.Core.Path.{◌≡◌, refl, ◌∙◌, ap}
use native.Mathlib.Omega.{arith}
use mathlib.Core.Bool.{Bool, ◌&&◌}
use native.Mathlib.Nat.{add-zero, zero-add}
use native.Mathlib.Numerals.{add-one}
use Rattle.std.specs.List.{list_all, range_with_len}
use Rattle.paper.proofs.Cases.{by_bool}
use Rattle.seek.specs.Every.{all_below}
use Rattle.seek.proofs.Everys.{every-alike}

and-regroup : (a b c : Bool) → ((a && b) && c) ≡ (a && (b && c))
and-regroup a b c = by_bool a (λ e. rw e) (λ e. rw e)

-- the first number of those below a bound, and the rest
first-below : (passes : ℕ → Bool) (n : ℕ) → all_below passes (suc n) ≡ (passes 0 && all_below (λ k. passes (suc k)) n)
unfolding all_below
first-below passes zero = by_bool (passes 0) (λ e. rw e) (λ e. rw e)
first-below passes (suc n) =
    rw (first-below passes n) (and-regroup (passes 0) (all_below (λ (k : ℕ). passes (suc k)) n) (passes (suc n)))

from-first : (passes : ℕ → Bool) (from n : ℕ) → list_all passes (range_with_len from n) ≡ all_below (λ k. passes (from + k)) n
unfolding all_below
from-first passes from zero = refl
from-first passes from (suc n) =
    rw (first-below (λ (k : ℕ). passes (from + k)) n, add-zero from, add-one from, from-first passes (suc from) n)
    (every-same (passes from) (every-alike (λ (k : ℕ). passes (suc from + k)) (λ (k : ℕ). passes (from + suc k)) n (λ k h. shifted k)))
  where
    shifted : (k : ℕ) → passes (suc from + k) ≡ passes (from + suc k)
    shifted k = let e : suc from + k ≡ from + suc k = omega arith in ap passes e

    every-same : (a : Bool) {b c : Bool} → b ≡ c → (a && b) ≡ (a && c)
    every-same a same = rw same

pub range-all : (passes : ℕ → Bool) (n : ℕ) → list_all passes (range_with_len 0 n) ≡ all_below passes n
range-all passes n = from-first passes 0 n ∙ every-alike (λ (k : ℕ). passes (0 + k)) passes n (λ k h. rw (zero-add k))
