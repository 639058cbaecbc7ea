-- A number with one bit turned on has that bit and those that it had, and 0 has none.
-- Assumes nothing.
use Prim.Native.Nat.{ℕ, zero, suc, ◌+◌, ◌-◌, ◌*◌, ◌/◌, ◌%◌, ◌^◌, ◌<◌}
use mathlib.Core.Path.{◌≡◌, refl, sym, ◌∙◌, ap}
use mathlib.Core.Bool.{true, false}
use native.Mathlib.Omega.{arith}
use native.Mathlib.Nat.{div_self, div-eq_of_lt, pow-suc, zero-div}
use lib.Dec.{eqb}
use lib.Bits.{bit_or, or_shr, or_mod, or_zero_r}
use lib.Pow.{pow-add, pow_pos, pow-lt, shl-shr}
use Rattle.paper.proofs.Cases.{by_lt}
use Rattle.bits.specs.Steps.{bit_at, with_bit}

-- one bit of an or is the or of the bits
bit-or : (v w j : ℕ) → bit_or v w / 2 ^ j % 2 ≡ bit_or (v / 2 ^ j % 2) (w / 2 ^ j % 2)
bit-or v w j = ap (λ (x : ℕ). x % 2) (or_shr v w j) ∙ or_mod (v / 2 ^ j) (w / 2 ^ j) 1

-- the bits of a power of two
power-here : (k : ℕ) → 2 ^ k / 2 ^ k % 2 ≡ 1
power-here k = rw (div_self (pow_pos k))

power-above : (j k : ℕ) → k < j → 2 ^ k / 2 ^ j % 2 ≡ 0
power-above j k h = rw (div-eq_of_lt (pow-lt h))

power_below : (j k : ℕ) → j < k → 2 ^ k / 2 ^ j % 2 ≡ 0
power_below j k h =
    let e : suc (k - suc j) + j ≡ k = omega arith in
    let p : 2 ^ k ≡ 2 ^ suc (k - suc j) * 2 ^ j = sym (ap (λ (n : ℕ). 2 ^ n) e) ∙ pow-add 2 (suc (k - suc j)) j in
    rw (p, shl-shr (2 ^ suc (k - suc j)) j, pow-suc 2 (k - suc j)) (omega arith)

one-or : (x : ℕ) → x < 2 → eqb (bit_or x 1) 1 ≡ true
one-or zero h = refl
one-or (suc zero) h = refl
one-or (suc (suc x)) h = absurd (omega arith)

module _ (w k : ℕ) where
  pub bit-on : bit_at (with_bit w k) k ≡ true
  bit-on = rw (bit-or w (2 ^ k) k, power-here k) (one-or (w / 2 ^ k % 2) (omega arith))

  pub bit-other : (j : ℕ) → (j ≡ k → ⊥) → bit_at (with_bit w k) j ≡ bit_at w j
  bit-other j apart = rw (bit-or w (2 ^ k) j, off, or_zero_r (w / 2 ^ j % 2))
    where
      off : 2 ^ k / 2 ^ j % 2 ≡ 0
      off =
          by_lt j k
          (power_below j k)
          (λ least. by_lt k j (power-above j k) (λ most. absurd (apart (omega arith))))

-- 0 has no bit on
pub none-on : (k : ℕ) → bit_at 0 k ≡ false
none-on k = rw (zero-div (2 ^ k))
