-- The laws of the 16-bit code, over any number of words: it is below 2 ^ 16, and one word, one byte or one bit changed changes it.
-- Assumes nothing.
use Prim.Native.Nat.{ℕ, zero, suc, ◌+◌, ◌*◌, ◌/◌, ◌%◌, ◌^◌, ◌<◌}
use mathlib.Core.Path.{◌≡◌, refl, sym, ◌∙◌, ap}
use mathlib.Core.List.{List, [], ◌∷◌, ◌++◌}
use native.Mathlib.Omega.{arith}
use lib.ListN.{length, get_or, set, length-set}
use lib.Seq.{ext_get_or, get_or-set_same, get_or-set_other}
use lib.Bits.{bit_or, bit_xor, or_shifted, xor_lt}
use lib.Pow.{pow_pos, pow-lt}
use Rattle.paper.specs.Limits.{start_code}
use Rattle.paper.proofs.Cases.{by_eq}
use Rattle.words.specs.Words.{be16, word16_at, Bytes}
use Rattle.words.proofs.Fitting.{Below}
use Rattle.words.proofs.Digits.{be16-below}
use Rattle.words.proofs.Places.{word16-drop}
use Rattle.image.specs.Code.{words_of, rotated, code_after, code_from, data_code, complement}
use Rattle.image.proofs.Xor.{xor-injective, xor-injective-left, xor-changes}

-- a list of numbers that two bytes hold
abbrev pub Fits16 : List ℕ → Type 0
Fits16 words = Below (2 ^ 16) words

-- one step
pub rotated-below : (code : ℕ) → code < 2 ^ 16 → rotated code < 2 ^ 16
unfolding rotated
rotated-below code h = omega arith

-- the union of the two shifts
pub rotated-union : (code : ℕ) → code < 2 ^ 16 → bit_or (code * 2 % 2 ^ 16) (code / 2 ^ 15) ≡ rotated code
unfolding rotated
rotated-union code h =
    let low : code * 2 % 2 ^ 16 ≡ code % 2 ^ 15 * 2 = omega arith in
    rw low (or_shifted (code % 2 ^ 15) 1 (code / 2 ^ 15) (omega arith))

two_digits : (a p b q : ℕ) → p < 2 → q < 2 → a * 2 + p ≡ b * 2 + q → (a ≡ b) × (p ≡ q)
two_digits a p b q h l e = (omega arith, omega arith)

pub rotated-injective : (a b : ℕ) → a < 2 ^ 16 → b < 2 ^ 16 → rotated a ≡ rotated b → a ≡ b
unfolding rotated
rotated-injective a b h l e =
    let low : a * 2 % 2 ^ 16 ≡ a % 2 ^ 15 * 2 = omega arith in
    let other : b * 2 % 2 ^ 16 ≡ b % 2 ^ 15 * 2 = omega arith in
    let digits = two_digits (a % 2 ^ 15) (a / 2 ^ 15) (b % 2 ^ 15) (b / 2 ^ 15) (omega arith) (omega arith) (rw (low, other) at e) in
    omega arith

pub code-after-below : (code word : ℕ) → code < 2 ^ 16 → word < 2 ^ 16 → code_after code word < 2 ^ 16
unfolding code_after
code-after-below code word h l = xor_lt 16 (rotated code) word (rotated-below code h) l

pub code-after-code : (a b word : ℕ) → a < 2 ^ 16 → b < 2 ^ 16 → code_after a word ≡ code_after b word → a ≡ b
unfolding code_after
code-after-code a b word h l e = rotated-injective a b h l (xor-injective-left (rotated a) (rotated b) word e)

pub code-after-word : (code a b : ℕ) → code_after code a ≡ code_after code b → a ≡ b
unfolding code_after
code-after-word code a b e = xor-injective (rotated code) a b e

-- all words
pub code_from-below : (code : ℕ) (words : List ℕ) → code < 2 ^ 16 → Fits16 words → code_from code words < 2 ^ 16
unfolding code_from
code_from-below code [] h fits = h
code_from-below code (n ∷ words) h fits = code_from-below (code_after code n) words (code-after-below code n h (fits 0)) (λ k. fits (suc k))

pub code_from-injective :
    (a b : ℕ) (words : List ℕ) → a < 2 ^ 16 → b < 2 ^ 16 → Fits16 words → code_from a words ≡ code_from b words → a ≡ b
unfolding code_from
code_from-injective a b [] h l fits e = e
code_from-injective a b (n ∷ words) h l fits e =
    code-after-code a b n h l
    (code_from-injective (code_after a n) (code_after b n) words (code-after-below a n h (fits 0)) (code-after-below b n l (fits 0)) (λ k. fits (suc k)) e)

-- the same code from another first word: it is no other word
first_word :
    (code a b : ℕ) (words : List ℕ) →
    code < 2 ^ 16 → a < 2 ^ 16 → b < 2 ^ 16 → Fits16 words → code_from (code_after code a) words ≡ code_from (code_after code b) words → a ≡ b
first_word code a b words h l m fits e =
    code-after-word code a b (code_from-injective (code_after code a) (code_after code b) words (code-after-below code a h l) (code-after-below code b h m) fits e)

-- the same code from one word changed: it was not changed
pub one_word :
    (code : ℕ) (words : List ℕ) (i word : ℕ) →
    code < 2 ^ 16 → Fits16 words → word < 2 ^ 16 → i < length words → code_from code (set words i word) ≡ code_from code words → word ≡ get_or words i 0
unfolding code_from
one_word code [] i word h fits l inside e = absurd (omega arith)
one_word code (n ∷ words) zero word h fits l inside e = first_word code word n words h l (fits 0) (λ k. fits (suc k)) e
one_word code (n ∷ words) (suc i) word h fits l inside e =
    one_word (code_after code n) words i word (code-after-below code n h (fits 0)) (λ k. fits (suc k)) l (omega arith) e

-- lists of the same length that differ in exactly one word have different codes
pub one-word-apart :
    (code : ℕ) (words others : List ℕ) (i : ℕ) →
    code < 2 ^ 16 → Fits16 words → Fits16 others → length words ≡ length others → i < length words →
    ((k : ℕ) → k < length words → (k ≡ i → ⊥) → get_or words k 0 ≡ get_or others k 0) →
    (get_or words i 0 ≡ get_or others i 0 → ⊥) → code_from code words ≡ code_from code others → ⊥
one-word-apart code words others i h fits more long inside alike apart e =
    apart (sym (one_word code words i (get_or others i 0) h fits (more i) inside (ap (code_from code) changed ∙ sym e)))
  where
    changed : set words i (get_or others i 0) ≡ others
    changed =
        ext_get_or 0 (set words i (get_or others i 0)) others (length-set words i (get_or others i 0) ∙ long)
        (λ k l.
        by_eq k i
        (λ (same : k ≡ i). rw same (get_or-set_same words i (get_or others i 0) 0 inside))
        (λ other. get_or-set_other words i k (get_or others i 0) 0 other ∙ alike k (rw (length-set words i (get_or others i 0)) at l) other))

-- the words of bytes
pub words_of-below : (bytes : List ℕ) → Bytes bytes → Fits16 (words_of bytes)
unfolding words_of
words_of-below [] h k = omega arith
words_of-below (lone ∷ []) h k = omega arith
words_of-below (hi ∷ lo ∷ bytes) h zero = be16-below hi lo (h 0) (h 1)
words_of-below (hi ∷ lo ∷ bytes) h (suc k) = words_of-below bytes (λ j. h (suc (suc j))) k

pub words_of-none : (bytes : List ℕ) → length bytes < 2 → words_of bytes ≡ []
unfolding words_of
words_of-none [] h = refl
words_of-none (lone ∷ []) h = refl
words_of-none (hi ∷ lo ∷ bytes) h = absurd (omega arith)

-- the word of the first two bytes, and those after it
pub words_of-first : (word rest : List ℕ) → length word ≡ 2 → words_of (word ++ rest) ≡ word16_at word 0 ∷ words_of rest
unfolding words_of word16_at
words_of-first [] rest two = absurd (omega arith)
words_of-first (lone ∷ []) rest two = absurd (omega arith)
words_of-first (hi ∷ lo ∷ []) rest two = refl
words_of-first (hi ∷ lo ∷ more ∷ word) rest two = absurd (omega arith)

pub length-words_of : (count : ℕ) (bytes : List ℕ) → length bytes ≡ 2 * count → length (words_of bytes) ≡ count
unfolding words_of
length-words_of count [] even = omega arith
length-words_of count (lone ∷ []) even = absurd (omega arith)
length-words_of zero (hi ∷ lo ∷ bytes) even = absurd (omega arith)
length-words_of (suc count) (hi ∷ lo ∷ bytes) even = ap suc (length-words_of count bytes (omega arith))

pub get_or-words_of : (count : ℕ) (bytes : List ℕ) (k : ℕ) → length bytes ≡ 2 * count → get_or (words_of bytes) k 0 ≡ word16_at bytes (2 * k)
unfolding words_of word16_at
get_or-words_of count [] k even = refl
get_or-words_of count (lone ∷ []) k even = absurd (omega arith)
get_or-words_of count (hi ∷ lo ∷ bytes) zero even = refl
get_or-words_of zero (hi ∷ lo ∷ bytes) (suc k) even = absurd (omega arith)
get_or-words_of (suc count) (hi ∷ lo ∷ bytes) (suc k) even =
    let next : 2 * suc k ≡ 2 + 2 * k = omega arith in
    get_or-words_of count bytes k (omega arith) ∙ rw next (word16-drop 2 (hi ∷ lo ∷ bytes) (2 * k))

pub data_code-below : (bytes : List ℕ) → Bytes bytes → data_code bytes < 2 ^ 16
unfolding data_code
data_code-below bytes h = code_from-below start_code (words_of bytes) (omega arith) (words_of-below bytes h)

-- the same code of data of which one byte is changed: it was not changed
one-byte-from :
    (code count : ℕ) (bytes : List ℕ) (k byte : ℕ) →
    code < 2 ^ 16 → Bytes bytes → length bytes ≡ 2 * count → byte < 256 → k < length bytes →
    code_from code (words_of (set bytes k byte)) ≡ code_from code (words_of bytes) → byte ≡ get_or bytes k 0
unfolding code_from words_of
one-byte-from code count [] k byte h bytes even l inside e = absurd (omega arith)
one-byte-from code count (lone ∷ []) k byte h bytes even l inside e = absurd (omega arith)
one-byte-from code count (hi ∷ lo ∷ rest) zero byte h bytes even l inside e =
    let old = be16-below hi lo (bytes 0) (bytes 1) in
    let new = be16-below byte lo l (bytes 1) in
    let same : be16 byte lo ≡ be16 hi lo = first_word code (be16 byte lo) (be16 hi lo) (words_of rest) h new old (words_of-below rest (λ j. bytes (suc (suc j)))) e in
    omega arith
one-byte-from code count (hi ∷ lo ∷ rest) (suc zero) byte h bytes even l inside e =
    let old = be16-below hi lo (bytes 0) (bytes 1) in
    let new = be16-below hi byte (bytes 0) l in
    let same : be16 hi byte ≡ be16 hi lo = first_word code (be16 hi byte) (be16 hi lo) (words_of rest) h new old (words_of-below rest (λ j. bytes (suc (suc j)))) e in
    omega arith
one-byte-from code zero (hi ∷ lo ∷ rest) (suc (suc k)) byte h bytes even l inside e = absurd (omega arith)
one-byte-from code (suc count) (hi ∷ lo ∷ rest) (suc (suc k)) byte h bytes even l inside e =
    let below = code-after-below code (be16 hi lo) h (be16-below hi lo (bytes 0) (bytes 1)) in
    one-byte-from (code_after code (be16 hi lo)) count rest k byte below (λ j. bytes (suc (suc j))) (omega arith) l (omega arith) e

module _ (count : ℕ) (bytes : List ℕ) (h : Bytes bytes) (even : length bytes ≡ 2 * count) where
  pub one_byte : (k byte : ℕ) → byte < 256 → k < length bytes → data_code (set bytes k byte) ≡ data_code bytes → byte ≡ get_or bytes k 0
  unfolding data_code
  one_byte k byte l inside e = one-byte-from start_code count bytes k byte (omega arith) h even l inside e

  -- one bit turned over changes the code
  pub one_bit : (k bit : ℕ) → bit < 8 → k < length bytes → data_code (set bytes k (bit_xor (get_or bytes k 0) (2 ^ bit))) ≡ data_code bytes → ⊥
  one_bit k bit low inside e =
      let below = xor_lt 8 (get_or bytes k 0) (2 ^ bit) (h k) (pow-lt low) in
      let none : 2 ^ bit ≡ 0 = xor-changes (get_or bytes k 0) (2 ^ bit) (one_byte k (bit_xor (get_or bytes k 0) (2 ^ bit)) below inside e) in
      omega (arith, pow_pos bit)

-- data of the same length that differ in exactly one word have different codes
pub data-apart :
    (count : ℕ) (bytes others : List ℕ) (i : ℕ) →
    Bytes bytes → Bytes others → length bytes ≡ 2 * count → length others ≡ 2 * count → i < count →
    ((k : ℕ) → k < count → (k ≡ i → ⊥) → word16_at bytes (2 * k) ≡ word16_at others (2 * k)) →
    (word16_at bytes (2 * i) ≡ word16_at others (2 * i) → ⊥) → data_code bytes ≡ data_code others → ⊥
unfolding data_code
data-apart count bytes others i h l even long inside alike apart =
    one-word-apart start_code (words_of bytes) (words_of others) i (omega arith) (words_of-below bytes h) (words_of-below others l)
    (length-words_of count bytes even ∙ sym (length-words_of count others long))
    (rw (length-words_of count bytes even) inside)
    (λ k below other. get_or-words_of count bytes k even ∙ alike k (rw (length-words_of count bytes even) at below) other ∙ sym (get_or-words_of count others k long))
    (λ same. apart (sym (get_or-words_of count bytes i even) ∙ same ∙ get_or-words_of count others i long))

-- a number is never its own complement
pub complement-differs : (code : ℕ) → code ≡ complement code → ⊥
complement-differs code e = omega arith

-- so no stored code is good and forced at once
pub good-not-forced : (stored found : ℕ) → stored ≡ found → stored ≡ complement found → ⊥
good-not-forced stored found good forced = complement-differs found (sym good ∙ forced)
