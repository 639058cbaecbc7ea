-- The laws of one word: the number of a number's bytes is the number, and the bytes of the number of bytes are those bytes.
-- Assumes nothing.
use Prim.Native.Nat.{ℕ, ◌/◌, ◌^◌, ◌<◌}
use mathlib.Core.Path.{◌≡◌, refl}
use mathlib.Core.List.{[], ◌∷◌}
use native.Mathlib.Nat.{div-add-mod', div-div-eq-div-mul, mod-eq_of_lt}
use native.Mathlib.Omega.{arith}
use lib.ListN.{length}
use lib.Arith.{digits_mod}
use Rattle.words.specs.Words.{be16, be32, bytes16, bytes32, word16_at, word32_at}

pub length-bytes16 : (n : ℕ) → length (bytes16 n) ≡ 2
unfolding bytes16
length-bytes16 n = refl

pub length-bytes32 : (n : ℕ) → length (bytes32 n) ≡ 4
unfolding bytes32
length-bytes32 n = refl

-- a number of two bytes is below 2 ^ 16
pub be16-below : (hi lo : ℕ) → hi < 256 → lo < 256 → be16 hi lo < 2 ^ 16
be16-below hi lo h l = omega arith

-- the bytes of the number of four bytes are those bytes
pub bytes32-be32 : (a b c d : ℕ) → a < 256 → b < 256 → c < 256 → d < 256 → bytes32 (be32 a b c d) ≡ a ∷ b ∷ c ∷ d ∷ []
unfolding bytes32
bytes32-be32 a b c d h i j k =
    let first : be32 a b c d / 16777216 ≡ a = omega arith in
    let second : be32 a b c d / 65536 ≡ be16 a b = omega arith in
    let third : be32 a b c d / 256 ≡ be16 (be16 a b) c = omega arith in
    rw (first, second, third, mod-eq_of_lt h, digits_mod a i, digits_mod (be16 a b) j, digits_mod (be16 (be16 a b) c) k)

-- the number of the bytes of a number is the number
pub word16-bytes16 : (n : ℕ) → n < 2 ^ 16 → word16_at (bytes16 n) 0 ≡ n
unfolding word16_at bytes16
word16-bytes16 n h =
    let top : n / 256 < 256 = omega arith in
    rw (mod-eq_of_lt top) (div-add-mod' n 256)

pub word32-bytes32 : (n : ℕ) → n < 2 ^ 32 → word32_at (bytes32 n) 0 ≡ n
unfolding word32_at bytes32
word32-bytes32 n h =
    let top : n / 16777216 < 256 = omega arith in
    rw (mod-eq_of_lt top, ← div-div-eq-div-mul n 65536 256, div-add-mod' (n / 65536) 256, ← div-div-eq-div-mul n 256 256, div-add-mod' (n / 256) 256) (div-add-mod' n 256)
