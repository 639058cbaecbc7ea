-- Rising lists, entry by entry: a rising list is an entry below all that follow, and then a rising list.
-- Assumes nothing.
use Prim.Native.Nat.{ℕ, zero, suc, ◌+◌, ◌<◌, ◌≤◌}
use mathlib.Core.Path.{◌≡◌, refl}
use mathlib.Core.List.{List, [], ◌∷◌}
use native.Mathlib.Omega.{arith}
use lib.ListN.{length, get_or}
use Rattle.paper.proofs.Cases.{by_eq}
use Rattle.lists.specs.Proper.{Rising, Rises, Inside}

-- every entry is above x
abbrev pub Above : ℕ → List ℕ → Type 0
Above x a = (i : ℕ) → i < length a → x < get_or a i 0

-- a list rises exactly where the entry at each of its places does
pub rising-rises : (a : List ℕ) → Rising a → (i : ℕ) → i < length a → Rises a i
rising-rises a rising i h before one = rw (← one) (rising before (rw (← one) at h))

pub rises-rising : (a : List ℕ) → ((i : ℕ) → i < length a → Rises a i) → Rising a
rises-rising a rises i h = rises (suc i) h i refl

pub rising-nil : Rising []
rising-nil i h = absurd (omega arith)

pub rising-tail : (x : ℕ) (a : List ℕ) → Rising (x ∷ a) → Rising a
rising-tail x a rising i h = rising (suc i) (omega arith)

pub rising-above : (x : ℕ) (a : List ℕ) → Rising (x ∷ a) → Above x a
rising-above x a rising zero h = rising 0 (omega arith)
rising-above x a rising (suc i) h = omega (arith, rising-above x a rising i (omega arith), rising (suc i) (omega arith))

pub rising-cons : (x : ℕ) (a : List ℕ) → Above x a → Rising a → Rising (x ∷ a)
rising-cons x a above rising zero h = above 0 (omega arith)
rising-cons x a above rising (suc i) h = rising i (omega arith)

pub inside-tail : (n x : ℕ) (a : List ℕ) → Inside n (x ∷ a) → Inside n a
inside-tail n x a inside i h = inside (suc i) (omega arith)

pub above-weaker : (x y : ℕ) (a : List ℕ) → x ≤ y → Above y a → Above x a
above-weaker x y a h above i l = omega (arith, above i l)

-- entries rise by one at least from place to place
pub rising-gap : (x : ℕ) (a : List ℕ) → Rising (x ∷ a) → (i : ℕ) → i < suc (length a) → x + i ≤ get_or (x ∷ a) i 0
rising-gap x a rising zero h = omega arith
rising-gap x a rising (suc i) h = omega (arith, rising-gap x a rising i (omega arith), rising i (omega arith))

-- and so no entry exceeds one at a later place
pub rising-order : (a : List ℕ) → Rising a → (i j : ℕ) → i ≤ j → j < length a → get_or a i 0 ≤ get_or a j 0
rising-order a rising i zero h inside = let same : i ≡ 0 = omega arith in rw same (omega arith)
rising-order a rising i (suc j) h inside =
    by_eq i (suc j)
    (λ same. rw same (omega arith))
    (λ other. omega (arith, rising-order a rising i j (omega arith) (omega arith), rising j inside))
