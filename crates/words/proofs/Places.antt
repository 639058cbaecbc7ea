-- The laws of a word at a place: it depends on its own bytes alone, and its bytes are those that stand there.
-- Assumes nothing.
use Prim.Native.Nat.{ℕ, suc, ◌+◌, ◌<◌, ◌≤◌}
use mathlib.Core.Path.{◌≡◌, sym, ◌∙◌}
use mathlib.Core.List.{List, ◌++◌}
use native.Mathlib.Nat.{add-zero, add_assoc}
use native.Mathlib.Numerals.{towards_suc}
use native.Mathlib.Omega.{arith}
use lib.ListN.{length, get_or, take, drop, get_or-append}
use lib.Seq.{sets, drop-cons, get_or-drop, get_or-append-add}
use Rattle.words.specs.Words.{bytes32, word16_at, word32_at, Bytes}
use Rattle.words.proofs.Digits.{bytes32-be32}
use Rattle.words.proofs.Stores.{get_or-sets-after, sets-part}

-- places whose bytes are alike
pub word16-alike :
    (l m : List ℕ) (at place : ℕ) → ((k : ℕ) → k < 2 → get_or l (at + k) 0 ≡ get_or m (place + k) 0) → word16_at l at ≡ word16_at m place
unfolding word16_at
word16-alike l m at place alike =
    let first : get_or l at 0 ≡ get_or m place 0 = simp add-zero at (alike 0 (omega arith)) in
    rw (first, alike 1 (omega arith))

pub word32-alike :
    (l m : List ℕ) (at place : ℕ) → ((k : ℕ) → k < 4 → get_or l (at + k) 0 ≡ get_or m (place + k) 0) → word32_at l at ≡ word32_at m place
unfolding word32_at
word32-alike l m at place alike =
    let first : get_or l at 0 ≡ get_or m place 0 = simp add-zero at (alike 0 (omega arith)) in
    rw (first, alike 1 (omega arith), alike 2 (omega arith), alike 3 (omega arith))

-- a word of a part
pub word16-drop : (n : ℕ) (l : List ℕ) (at : ℕ) → word16_at (drop n l) at ≡ word16_at l (n + at)
word16-drop n l at = word16-alike (drop n l) l at (n + at) (λ k h. get_or-drop n l (at + k) 0 ∙ rw (add_assoc n at k))

-- a word of the first or of the second of two lists
pub word32-first : (first rest : List ℕ) (at : ℕ) → at + 4 ≤ length first → word32_at (first ++ rest) at ≡ word32_at first at
word32-first first rest at fits = word32-alike (first ++ rest) first at at (λ k h. get_or-append first rest 0 (at + k) (omega arith))

pub word16-second : (first rest : List ℕ) (at : ℕ) → word16_at (first ++ rest) (length first + at) ≡ word16_at rest at
word16-second first rest at =
    word16-alike (first ++ rest) rest (length first + at) at
    (λ k h. rw (add_assoc (length first) at k) (get_or-append-add first rest (at + k) 0))

pub word32-second : (first rest : List ℕ) (at : ℕ) → word32_at (first ++ rest) (length first + at) ≡ word32_at rest at
word32-second first rest at =
    word32-alike (first ++ rest) rest (length first + at) at
    (λ k h. rw (add_assoc (length first) at k) (get_or-append-add first rest (at + k) 0))

-- a run of stores leaves the words after it
pub word16-after : (l : List ℕ) (at : ℕ) (run : List ℕ) (place : ℕ) → at + length run ≤ place → word16_at (sets l at run) place ≡ word16_at l place
word16-after l at run place apart = word16-alike (sets l at run) l place place (λ k h. get_or-sets-after l at (place + k) run 0 (omega arith))

module _ (l : List ℕ) (bytes : Bytes l) (at : ℕ) where
  -- the bytes of the word at a place are those that stand there
  pub bytes32-word32 : at + 4 ≤ length l → bytes32 (word32_at l at) ≡ take 4 (drop at l)
  unfolding word32_at
  bytes32-word32 fits =
      bytes32-be32 _ _ _ _ (bytes at) (bytes (at + 1)) (bytes (at + 2)) (bytes (at + 3))
      ∙ simp towards_suc
      (sym
      (rw
      (drop-cons l at 0 (omega arith), drop-cons l (suc at) 0 (omega arith), drop-cons l (suc (suc at)) 0 (omega arith), drop-cons l (suc (suc (suc at))) 0 (omega arith))))

  -- stored there again it changes nothing
  pub put-word32 : at + 4 ≤ length l → sets l at (bytes32 (word32_at l at)) ≡ l
  put-word32 fits = rw (bytes32-word32 fits) (sets-part l at 4 fits)
