-- The exclusive or with a number loses nothing: from the result and the number the other one is found again.
-- Assumes nothing.
use Prim.Native.Nat.{ℕ, zero, suc, ◌+◌, ◌*◌, ◌/◌, ◌%◌, ◌<◌}
use mathlib.Core.Path.{◌≡◌, refl, sym, ◌∙◌}
use native.Mathlib.Nat.{mod-lt}
use native.Mathlib.Omega.{arith}
use lib.Arith.{bin_ind}
use lib.Bits.{bit_xor, differ, xor_step, xor_zero_r, xor_comm}

digit-below : (x y : ℕ) → x < 2 → y < 2 → differ x y < 2
digit-below zero y h l = l
digit-below (suc zero) zero h l = h
digit-below (suc zero) (suc zero) h l = omega arith
digit-below (suc zero) (suc (suc y)) h l = absurd (omega arith)
digit-below (suc (suc x)) y h l = absurd (omega arith)

digit-injective : (x y z : ℕ) → x < 2 → y < 2 → z < 2 → differ x y ≡ differ x z → y ≡ z
digit-injective zero y z h i j e = e
digit-injective (suc zero) zero zero h i j e = refl
digit-injective (suc zero) (suc zero) (suc zero) h i j e = refl
digit-injective (suc zero) zero (suc zero) h i j e = absurd (omega arith)
digit-injective (suc zero) (suc zero) zero h i j e = absurd (omega arith)
digit-injective (suc zero) zero (suc (suc z)) h i j e = absurd (omega arith)
digit-injective (suc zero) (suc zero) (suc (suc z)) h i j e = absurd (omega arith)
digit-injective (suc zero) (suc (suc y)) z h i j e = absurd (omega arith)
digit-injective (suc (suc x)) y z h i j e = absurd (omega arith)

pub xor-injective : (a b c : ℕ) → bit_xor a b ≡ bit_xor a c → b ≡ c
xor-injective a =
    bin_ind (λ (n : ℕ). (b c : ℕ) → bit_xor n b ≡ bit_xor n c → b ≡ c) (λ b c e. e) digits a
  where
    digits : (n : ℕ) → ((b c : ℕ) → bit_xor (n / 2) b ≡ bit_xor (n / 2) c → b ≡ c) → (b c : ℕ) → bit_xor n b ≡ bit_xor n c → b ≡ c
    digits n halves b c e =
        let odd : n % 2 < 2 = mod-lt n (omega arith) in
        let low : b % 2 < 2 = mod-lt b (omega arith) in
        let other : c % 2 < 2 = mod-lt c (omega arith) in
        let both : bit_xor (n / 2) (b / 2) * 2 + differ (n % 2) (b % 2) ≡ bit_xor (n / 2) (c / 2) * 2 + differ (n % 2) (c % 2) = sym (xor_step n b) ∙ e ∙ xor_step n c in
        let first : differ (n % 2) (b % 2) < 2 = digit-below _ _ odd low in
        let second : differ (n % 2) (c % 2) < 2 = digit-below _ _ odd other in
        let high : b / 2 ≡ c / 2 = halves (b / 2) (c / 2) (omega arith) in
        let last : b % 2 ≡ c % 2 = digit-injective (n % 2) _ _ odd low other (omega arith) in
        omega arith

pub xor-injective-left : (a b c : ℕ) → bit_xor a c ≡ bit_xor b c → a ≡ b
xor-injective-left a b c e = xor-injective c a b (xor_comm c a ∙ e ∙ xor_comm b c)

-- the exclusive or with any number but 0 is another number
pub xor-changes : (a b : ℕ) → bit_xor a b ≡ a → b ≡ 0
xor-changes a b e = xor-injective a b 0 (e ∙ sym (xor_zero_r a))
