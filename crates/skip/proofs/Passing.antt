-- What the searches in a list cite: what one entry tells of how many a block passes and of how many lie below a sector, and when a block passes just so many entries.
-- Assumes nothing.
use Prim.Native.Nat.{ℕ, zero, suc, ◌+◌, ◌-◌, ◌<◌, ◌≤◌}
use mathlib.Core.Path.{◌≡◌, sym}
use mathlib.Core.Bool.{true, false, not}
use mathlib.Core.List.{List, [], ◌∷◌}
use native.Mathlib.Omega.{arith}
use lib.Dec.{leb, ltb, eqb}
use lib.ListN.{length, get_or, drop}
use borrow.Author.Tests.{eq-eqb, ne_eqb, le-leb, lt-leb, leb-true, leb-false, lt-ltb, le-ltb}
use Rattle.paper.proofs.Cases.{by_lt, by_eq}
use Rattle.lists.specs.Proper.{Rising}
use Rattle.lists.proofs.Risings.{rising-tail, rising-above, rising-gap}
use Rattle.skip.specs.Walk.{passes, entries_below}
use Rattle.skip.proofs.Walks.{passes-nil, passes_on, passes-stop, below-nil, below_less, below_more, below-above}

-- entries known to be passed are passed first
pub passes-from : (a : List ℕ) (b d : ℕ) → d ≤ passes a b → passes a b ≡ d + passes (drop d a) (b + d)
passes-from a b zero h = let same : b + 0 ≡ b = omega arith in rw same (omega arith)
passes-from [] b (suc d) h = absurd (omega (arith, passes-nil b))
passes-from (x ∷ a) b (suc d) h =
    by_lt b x
    (λ stop. absurd (omega (arith, passes-stop x a b stop)))
    (λ on.
    let next : b + suc d ≡ suc b + d = omega arith in
    rw next (omega (arith, passes_on x a b on, passes-from a (suc b) d (omega (arith, passes_on x a b on)))))

-- where an entry is at most the address on the way to it, the entries up to it are passed
pub passes-at-least : (a : List ℕ) (b d : ℕ) → Rising a → d < length a → get_or a d 0 ≤ b + d → suc d ≤ passes a b
passes-at-least [] b d rising h on = absurd (omega arith)
passes-at-least (x ∷ a) b zero rising h on = omega (arith, passes_on x a b (omega arith))
passes-at-least (x ∷ a) b (suc d) rising h on =
    omega (arith, passes_on x a b (omega (arith, rising-gap x a rising (suc d) h)), passes-at-least a (suc b) d (rising-tail x a rising) (omega arith) (omega arith))

-- where an entry lies above the address on the way to it, only entries before it are passed
pub passes-at-most : (a : List ℕ) (b d : ℕ) → b + d < get_or a d 0 → passes a b ≤ d
passes-at-most [] b d stop = omega (arith, passes-nil b)
passes-at-most (x ∷ a) b zero stop = omega (arith, passes-stop x a b (omega arith))
passes-at-most (x ∷ a) b (suc d) stop =
    by_lt b x
    (λ here. omega (arith, passes-stop x a b here))
    (λ on. omega (arith, passes_on x a b on, passes-at-most a (suc b) d (omega arith)))

-- an entry adds at most one to those below a sector
below_one : (x : ℕ) (a : List ℕ) (s : ℕ) → entries_below (x ∷ a) s ≤ suc (entries_below a s)
below_one x a s = by_lt x s (λ less. omega (arith, below_less x a s less)) (λ more. omega (arith, below_more x a s more))

-- no more entries lie below a sector than there are
pub below-le : (a : List ℕ) (s : ℕ) → entries_below a s ≤ length a
below-le [] s = omega (arith, below-nil s)
below-le (x ∷ a) s = omega (arith, below_one x a s, below-le a s)

-- an entry below a sector has all entries before it below the sector too
pub below-at-least : (a : List ℕ) (s d : ℕ) → Rising a → d < length a → get_or a d 0 < s → suc d ≤ entries_below a s
below-at-least [] s d rising h less = absurd (omega arith)
below-at-least (x ∷ a) s zero rising h less = omega (arith, below_less x a s less)
below-at-least (x ∷ a) s (suc d) rising h less =
    omega (arith, below_less x a s (omega (arith, rising-gap x a rising (suc d) h)), below-at-least a s d (rising-tail x a rising) (omega arith) less)

-- an entry at or above a sector has none after it below the sector
pub below-at-most : (a : List ℕ) (s d : ℕ) → Rising a → d < length a → s ≤ get_or a d 0 → entries_below a s ≤ d
below-at-most [] s d rising h more = absurd (omega arith)
below-at-most (x ∷ a) s zero rising h more =
    omega (arith, below_more x a s more, below-above x a s (omega arith) (rising-above x a rising))
below-at-most (x ∷ a) s (suc d) rising h more =
    omega (arith, below_one x a s, below-at-most a s d (rising-tail x a rising) (omega arith) more)

-- a block passes at least so many entries exactly when the last of them lies below the address that they lead to
pub least-told : (a : List ℕ) (b d : ℕ) → Rising a → (d ≡ 0 → ⊥) → d ≤ length a → ltb (get_or a (d - 1) 0) (b + d) ≡ leb d (passes a b)
least-told a b d rising some h =
    by_lt (get_or a (d - 1) 0) (b + d)
    (λ under.
    rw (lt-ltb (get_or a (d - 1) 0) (b + d) under)
    (sym (le-leb d (passes a b) (omega (arith, passes-at-least a b (d - 1) rising (omega arith) (omega arith))))))
    (λ over.
    rw (le-ltb (get_or a (d - 1) 0) (b + d) over)
    (sym (lt-leb d (passes a b) (omega (arith, passes-at-most a b (d - 1) (omega arith))))))

-- and just so many where it does not pass one more
module _ (d p : ℕ) where
  pub just-short : leb d p ≡ false → eqb d p ≡ false
  just-short e = ne_eqb d p (λ same. omega (arith, leb-false d p e))

  pub just-told : leb d p ≡ true → not (leb (d + 1) p) ≡ eqb d p
  just-told e =
      by_eq d p
      (λ same. rw (eq-eqb d p same, lt-leb (d + 1) p (omega arith)))
      (λ other. rw (ne_eqb d p other, le-leb (d + 1) p (omega (arith, leb-true d p e))))

-- where the entries before a place lie below the sector and those from it on do not, so many lie below it
pub below-count :
    (a : List ℕ) (s d : ℕ) → Rising a → d ≤ length a → ((k : ℕ) → k < d → get_or a k 0 < s) → ((k : ℕ) → d ≤ k → k < length a → s ≤ get_or a k 0) →
    d ≡ entries_below a s
below-count a s d rising h less more =
    omega (arith, at_least d h less, by_lt d (length a) (λ in'. below-at-most a s d rising in' (more d (omega arith) in')) (λ out. omega (arith, below-le a s)))
  where
    at_least : (d : ℕ) → d ≤ length a → ((k : ℕ) → k < d → get_or a k 0 < s) → d ≤ entries_below a s
    at_least zero h less = omega arith
    at_least (suc d) h less = below-at-least a s d rising (omega arith) (less d (omega arith))
