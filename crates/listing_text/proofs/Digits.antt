-- The laws of decimal text: it goes on digit by digit, its digits say the number again, it starts with no 0 but for 0 itself, and how long it is.
-- Assumes nothing.
use Prim.Native.Nat.{ℕ, zero, suc, ◌+◌, ◌*◌, ◌-◌, ◌/◌, ◌%◌, ◌^◌, ◌<◌, ◌≤◌}
use mathlib.Core.Path.{◌≡◌, refl, ◌∙◌, ap}
use mathlib.Core.List.{List, [], ◌∷◌, ◌++◌}
use native.Mathlib.Nat.{pow-suc, div-lt_iff_lt-mul}
use native.Mathlib.Omega.{arith}
use lib.ListN.{length, get_or, length-append, get_or-append}
use borrow.Author.Tests.{lt-ltb, le-ltb}
use Rattle.paper.proofs.Cases.{by_lt}
use Rattle.listing_text.specs.Decimal.{digit_zero, digit, digits_in, decimal}

-- the number that digits say after those that said so much
unfoldable pub said_after : ℕ → List ℕ → ℕ
said_after before [] = before
said_after before (d ∷ text) = said_after (before * 10 + (d - digit_zero)) text

-- the number that digits say
abbrev pub said_by : List ℕ → ℕ
said_by text = said_after 0 text

-- more steps than the number has digits change nothing
steps-enough : (steps more n : ℕ) → n < steps → n < more → digits_in steps n ≡ digits_in more n
unfolding digits_in
steps-enough zero more n h l = absurd (omega arith)
steps-enough (suc steps) zero n h l = absurd (omega arith)
steps-enough (suc steps) (suc more) n h l =
    by_lt n 10
    (λ small. rw (lt-ltb n 10 small))
    (λ large. rw (le-ltb n 10 large, steps-enough steps more (n / 10) (omega arith) (omega arith)))

pub decimal-one : (n : ℕ) → n < 10 → decimal n ≡ digit n ∷ []
unfolding decimal digits_in
decimal-one n small = rw (lt-ltb n 10 small)

pub decimal-more : (n : ℕ) → 10 ≤ n → decimal n ≡ decimal (n / 10) ++ (digit (n % 10) ∷ [])
unfolding decimal digits_in
decimal-more n large = rw (le-ltb n 10 large, steps-enough n (suc (n / 10)) (n / 10) (omega arith) (omega arith))

-- what holds of one digit, and goes on from the digits before the last, holds of every number
pub by_digits {ℓ} : (P : ℕ → Type ℓ) → ((n : ℕ) → n < 10 → P n) → ((n : ℕ) → 10 ≤ n → P (n / 10) → P n) → (n : ℕ) → P n
by_digits P one more n = below (suc n) n (omega arith)
  where
    below : (bound k : ℕ) → k < bound → P k
    below zero k h = absurd (omega arith)
    below (suc bound) k h = by_lt k 10 (λ small. one k small) (λ large. more k large (below bound (k / 10) (omega arith)))

said-next : (before : ℕ) (text : List ℕ) (d : ℕ) → said_after before (text ++ (d ∷ [])) ≡ said_after before text * 10 + (d - digit_zero)
unfolding said_after
said-next before [] d = refl
said-next before (e ∷ text) d = said-next (before * 10 + (e - digit_zero)) text d

-- the digits of a number say the number
pub reads-back : (n : ℕ) → said_by (decimal n) ≡ n
unfolding said_after
reads-back = by_digits (λ n. said_by (decimal n) ≡ n) one more
  where
    one : (n : ℕ) → n < 10 → said_by (decimal n) ≡ n
    one n small = rw (decimal-one n small) (omega arith)

    more : (n : ℕ) → 10 ≤ n → said_by (decimal (n / 10)) ≡ n / 10 → said_by (decimal n) ≡ n
    more n large before = rw (decimal-more n large, said-next 0 (decimal (n / 10)) (digit (n % 10)), before) (omega arith)

-- the last digit counts one
pub length_more : (n : ℕ) → 10 ≤ n → length (decimal n) ≡ length (decimal (n / 10)) + 1
length_more n large = ap length (decimal-more n large) ∙ length-append (decimal (n / 10)) (digit (n % 10) ∷ [])

pub decimal-some : (n : ℕ) → 0 < length (decimal n)
decimal-some n = by_lt n 10 (λ small. rw (decimal-one n small) (omega arith)) (λ large. omega (arith, length_more n large))

-- the first digit is no 0 but for the number 0
pub no-leading-zero : (n : ℕ) → 0 < n → digit_zero < get_or (decimal n) 0 0
no-leading-zero = by_digits (λ n. 0 < n → digit_zero < get_or (decimal n) 0 0) one more
  where
    one : (n : ℕ) → n < 10 → 0 < n → digit_zero < get_or (decimal n) 0 0
    one n small some = rw (decimal-one n small) (omega arith)

    more : (n : ℕ) → 10 ≤ n → (0 < n / 10 → digit_zero < get_or (decimal (n / 10)) 0 0) → 0 < n → digit_zero < get_or (decimal n) 0 0
    more n large before some =
        rw (decimal-more n large, get_or-append (decimal (n / 10)) (digit (n % 10) ∷ []) 0 0 (decimal-some (n / 10)))
        (before (omega arith))

-- a number below a power of ten has no more digits than it says
pub decimal-short : (k n : ℕ) → n < 10 ^ suc k → length (decimal n) ≤ suc k
decimal-short zero n below = rw (decimal-one n below) (omega arith)
decimal-short (suc k) n below =
    by_lt n 10
    (λ small. rw (decimal-one n small) (omega arith))
    (λ large.
    let some : 0 < 10 = omega arith in
    omega (arith, length_more n large, decimal-short k (n / 10) ((div-lt_iff_lt-mul some).1 (rw (pow-suc 10 (suc k)) at below))))
