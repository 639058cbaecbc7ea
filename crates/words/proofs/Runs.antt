-- The laws of a run of words: the entries of a list's bytes are the list, the bytes of entries are those that stand there, what leaves them, and one entry more.
-- Assumes nothing.
use Prim.Native.Nat.{ℕ, zero, suc, ◌+◌, ◌*◌, ◌<◌, ◌≤◌}
use mathlib.Core.Path.{◌≡◌, refl, sym, ◌∙◌, ap}
use mathlib.Core.List.{List, [], ◌∷◌, ◌++◌, append_assoc, append-nil}
use native.Mathlib.Nat.{add-zero, zero-add, add_assoc}
use native.Mathlib.Numerals.{add-one}
use native.Mathlib.Omega.{arith}
use lib.ListN.{length, get_or, take, drop, set, length-append}
use lib.Seq.{sets, take-suc, take-add, drop-drop, length-take-le}
use Rattle.words.specs.Words.{bytes32, word32_at, entries_at, bytes_of, Bytes}
use Rattle.words.proofs.Fitting.{Fits32}
use Rattle.words.proofs.Stores.{sets-append, sets-next, sets-part}
use Rattle.words.proofs.Digits.{length-bytes32, word32-bytes32}
use Rattle.words.proofs.Places.{word32-first, word32-second, bytes32-word32}

pub length-bytes_of : (list : List ℕ) → length (bytes_of list) ≡ 4 * length list
unfolding bytes_of
length-bytes_of [] = refl
length-bytes_of (n ∷ list) = length-append (bytes32 n) (bytes_of list) ∙ omega (arith, length-bytes32 n, length-bytes_of list)

pub length-entries_at : (bytes : List ℕ) (at count : ℕ) → length (entries_at bytes at count) ≡ count
unfolding entries_at
length-entries_at bytes at zero = refl
length-entries_at bytes at (suc count) = ap suc (length-entries_at bytes (at + 4) count)

-- the bytes of no number, of two lists one after the other, and of one number more
pub bytes_of-none : bytes_of [] ≡ []
unfolding bytes_of
bytes_of-none = refl

pub bytes_of-append : (first next : List ℕ) → bytes_of (first ++ next) ≡ bytes_of first ++ bytes_of next
unfolding bytes_of
bytes_of-append [] next = refl
bytes_of-append (n ∷ first) next = rw (bytes_of-append first next) (sym (append_assoc (bytes32 n) (bytes_of first) (bytes_of next)))

pub bytes_of-next : (list : List ℕ) (n : ℕ) → bytes_of (list ++ (n ∷ [])) ≡ bytes_of list ++ bytes32 n
unfolding bytes_of
bytes_of-next list n = bytes_of-append list (n ∷ []) ∙ rw (append-nil (bytes32 n))

next_place : (at k : ℕ) → at + 4 + 4 * k ≡ at + 4 * suc k
next_place at k = omega arith

-- an entry is the word at its place
pub get_or-entries_at : (bytes : List ℕ) (at count k : ℕ) → k < count → get_or (entries_at bytes at count) k 0 ≡ word32_at bytes (at + 4 * k)
unfolding entries_at
get_or-entries_at bytes at zero k h = absurd (omega arith)
get_or-entries_at bytes at (suc count) zero h = rw (add-zero at)
get_or-entries_at bytes at (suc count) (suc k) h = rw (← next_place at k) (get_or-entries_at bytes (at + 4) count k (omega arith))

-- no entry, and one entry more
pub entries_at-none : (bytes : List ℕ) (at : ℕ) → entries_at bytes at 0 ≡ []
unfolding entries_at
entries_at-none bytes at = refl

pub entries_at-next :
    (bytes : List ℕ) (at count : ℕ) → entries_at bytes at (count + 1) ≡ entries_at bytes at count ++ (word32_at bytes (at + 4 * count) ∷ [])
unfolding entries_at
entries_at-next bytes at count = rw (add-one count) (last at count)
  where
    last : (from n : ℕ) → entries_at bytes from (suc n) ≡ entries_at bytes from n ++ (word32_at bytes (from + 4 * n) ∷ [])
    last from zero = rw (add-zero from)
    last from (suc n) = rw (← next_place from n) (ap (λ (rest : List ℕ). word32_at bytes from ∷ rest) (last (from + 4) n))

-- runs whose words are alike
pub entries_at-alike :
    (l m : List ℕ) (at place count : ℕ) →
    ((k : ℕ) → k < count → word32_at l (at + 4 * k) ≡ word32_at m (place + 4 * k)) → entries_at l at count ≡ entries_at m place count
unfolding entries_at
entries_at-alike l m at place zero alike = refl
entries_at-alike l m at place (suc count) alike =
    let first : word32_at l at ≡ word32_at m place = simp add-zero at (alike 0 (omega arith)) in
    rw
    (first, entries_at-alike l m (at + 4) (place + 4) count (λ k h. rw (next_place at k, next_place place k) (alike (suc k) (omega arith))))

-- the entries of the second of two lists
pub entries_at-second : (first rest : List ℕ) (at count : ℕ) → entries_at (first ++ rest) (length first + at) count ≡ entries_at rest at count
entries_at-second first rest at count =
    entries_at-alike (first ++ rest) rest (length first + at) at count
    (λ k h. rw (add_assoc (length first) at (4 * k)) (word32-second first rest (at + 4 * k)))

-- the entries of a list's bytes are the list
pub entries_at-bytes_of : (list rest : List ℕ) → Fits32 list → entries_at (bytes_of list ++ rest) 0 (length list) ≡ list
unfolding bytes_of entries_at bytes32
entries_at-bytes_of [] rest fits = refl
entries_at-bytes_of (n ∷ list) rest fits =
    rw
    (append_assoc (bytes32 n) (bytes_of list) rest, first)
    (ap (λ (tail : List ℕ). n ∷ tail) (others ∙ entries_at-bytes_of list rest (λ k. fits (suc k))))
  where
    first : word32_at (bytes32 n ++ (bytes_of list ++ rest)) 0 ≡ n
    first = word32-first (bytes32 n) (bytes_of list ++ rest) 0 (omega (arith, length-bytes32 n)) ∙ word32-bytes32 n (fits 0)

    others : entries_at (bytes32 n ++ (bytes_of list ++ rest)) 4 (length list) ≡ entries_at (bytes_of list ++ rest) 0 (length list)
    others = rw (length-bytes32 n) at (entries_at-second (bytes32 n) (bytes_of list ++ rest) 0 (length list))

-- the bytes of the entries from a place on are those that stand there
pub bytes_of-entries_at :
    (bytes : List ℕ) (at count : ℕ) → Bytes bytes → at + 4 * count ≤ length bytes → bytes_of (entries_at bytes at count) ≡ take (4 * count) (drop at bytes)
unfolding bytes_of entries_at
bytes_of-entries_at bytes at zero h fits = refl
bytes_of-entries_at bytes at (suc count) h fits =
    let more : 4 * suc count ≡ 4 + 4 * count = omega arith in
    rw
    (more, take-add 4 (4 * count) (drop at bytes), drop-drop 4 at bytes, bytes32-word32 bytes h at (omega arith), bytes_of-entries_at bytes (at + 4) count h (omega arith))

-- stored there again they change nothing
pub put-entries_at : (bytes : List ℕ) (at count : ℕ) → Bytes bytes → at + 4 * count ≤ length bytes → sets bytes at (bytes_of (entries_at bytes at count)) ≡ bytes
put-entries_at bytes at count h fits = rw (bytes_of-entries_at bytes at count h fits) (sets-part bytes at (4 * count) fits)

-- one number more is written, and one entry more is read
pub put_next :
    (room : List ℕ) (at : ℕ) (list : List ℕ) (k : ℕ) →
    k < length list → sets (sets room at (bytes_of (take k list))) (at + 4 * k) (bytes32 (get_or list k 0)) ≡ sets room at (bytes_of (take (k + 1) list))
put_next room at list k h =
    let long : length (bytes_of (take k list)) ≡ 4 * k = length-bytes_of (take k list) ∙ ap (λ (n : ℕ). 4 * n) (length-take-le k list (omega arith)) in
    rw (← long, ← sets-append room at (bytes_of (take k list)) (bytes32 (get_or list k 0)), ← bytes_of-next (take k list) (get_or list k 0), add-one k, take-suc list k 0 h)

pub fill-next :
    (room bytes : List ℕ) (at k : ℕ) → set (sets room 0 (entries_at bytes at k)) k (word32_at bytes (at + 4 * k)) ≡ sets room 0 (entries_at bytes at (k + 1))
fill-next room bytes at k =
    rw (entries_at-next bytes at k)
    (rw (zero-add, length-entries_at bytes at k) at (sets-next room 0 (entries_at bytes at k) (word32_at bytes (at + 4 * k))))
