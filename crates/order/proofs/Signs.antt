-- Signed numbers as the search uses them: what a sum within its range is, what a test against a bound tells of it, and the sum of a place and an offset.
-- Assumes nothing.
use Prim.Native.Nat.{ℕ, zero, suc, ◌-◌, ◌<◌, ◌≤◌, ◌^◌, zero-le}
use mathlib.Core.Path.{◌≡◌, refl, sym, ◌∙◌}
use mathlib.Core.Bool.{true, false, true≢false}
use native.Mathlib.Omega.{arith}
use lib.Dec.{T}
use lib.IntN.{ℤ, pos, negsuc, nat_abs, neg_ℤ, sub_ℕ, ◌+ℤ◌, ◌-ℤ◌, +ℤ_idl}
use lib.Signed.{mag, lt_z, le_z, non_neg}
use mir.Syntax.{w32}
use mir.Val.{SFits, to_z, of_z}
use mir.Facts.{to_z_pos, to_z-of_z}
use borrow.Author.Tests.{lt-ltb, le-ltb, leb-true, leb-false}
use Rattle.paper.specs.Limits.{table_block}
use Rattle.paper.proofs.Cases.{by_lt}
use Rattle.order.specs.Steps.{place_in}

-- a − b is not negative where b is at most a, and negative where it is more
pub minus-within : (a b : ℕ) → b ≤ a → sub_ℕ a b ≡ pos (a - b)
minus-within a b h = rw (le-ltb a b h)

pub minus-below : (a b : ℕ) → a < b → sub_ℕ a b ≡ negsuc (b - suc a)
minus-below a b h = rw (lt-ltb a b h)

-- a place and an offset of at most the block's length have a sum that 32 bits hold
pub sum_fits : (o : ℕ) (k : ℤ) → o < table_block → nat_abs k ≤ table_block → SFits w32 (pos o +ℤ k)
sum_fits o (pos k) inside short = record { sfits = omega arith }
sum_fits o (negsuc k) inside short =
    by_lt o (suc k)
    (λ h. rw (minus-below o (suc k) h) (record { sfits = omega arith }))
    (λ h. rw (minus-within o (suc k) h) (record { sfits = omega arith }))

-- so has the negative of a distance of at most the block's length
pub minus-fits : (d : ℕ) → d ≤ table_block → SFits w32 (neg_ℤ (pos d))
minus-fits zero short = record { sfits = omega arith }
minus-fits (suc d) short = record { sfits = omega arith }

-- a distance as it is read from its bits, and its negative as it is stored and read again
pub distance_is : (d : ℕ) → d ≤ table_block → to_z w32 d ≡ pos d
distance_is d short = to_z_pos w32 (omega arith)

pub minus_is : (d : ℕ) → d ≤ table_block → pos 0 -ℤ to_z w32 d ≡ neg_ℤ (pos d)
minus_is d short = rw (distance_is d short) (+ℤ_idl (neg_ℤ (pos d)))

-- a signed number as it is read again from its bits
pub read_again : (k : ℤ) → mag k < 2 ^ 31 → to_z w32 (of_z w32 k) ≡ k
read_again k small = to_z-of_z {w = w32} (record { sfits = small })

-- the same for a place and an offset
pub sum_is : (o : ℕ) (k : ℤ) → o < table_block → SFits w32 k → to_z w32 o +ℤ to_z w32 (of_z w32 k) ≡ pos o +ℤ k
sum_is o k inside fits = rw (distance_is o (omega arith), to_z-of_z fits)

-- a number that is not below 0 has no sign
pub unsigned : (z : ℤ) → lt_z z (pos 0) ≡ false → T (non_neg z)
unsigned (pos n) low = tt
unsigned (negsuc n) low = absurd (true≢false low)

-- a negative place lies outside the block
pub place-below : (z : ℤ) → lt_z z (pos 0) ≡ true → place_in z ≡ table_block
place-below (pos n) e = absurd (true≢false (sym e ∙ le-ltb n 0 zero-le))
place-below (negsuc n) e = refl

-- so does one past its end
pub place-past : (z : ℤ) → le_z (pos table_block) z ≡ true → place_in z ≡ table_block
place-past (pos n) e = rw (le-ltb n table_block (leb-true table_block n e))
place-past (negsuc n) e = refl

-- and any other is the place itself
pub place_inside : (z : ℤ) → lt_z z (pos 0) ≡ false → le_z (pos table_block) z ≡ false → place_in z ≡ nat_abs z
place_inside (pos n) low high = rw (lt-ltb n table_block (leb-false table_block n high))
place_inside (negsuc n) low high = absurd (true≢false low)
