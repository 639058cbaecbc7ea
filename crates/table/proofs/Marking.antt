-- The marks by which a block named twice is found: after some places, a mark of the window is on exactly where one of them names its block.
-- Assumes nothing.
use Prim.Native.Nat.{ℕ, ◌+◌, ◌-◌, ◌*◌, ◌/◌, ◌%◌, ◌<◌, ◌≤◌}
use mathlib.Core.Path.{◌≡◌, refl, sym, ◌∙◌, ap}
use mathlib.Core.Bool.{true, false, not, ◌&&◌, true≢false, and-true, and-false, or-true, not-not}
use mathlib.Core.List.{List}
use native.Mathlib.Numerals.{add-one}
use native.Mathlib.Nat.{mul-le-mul_right, mul_assoc}
use native.Mathlib.Omega.{arith}
use Rattle.std.specs.Int.{div_ceil}
use Rattle.std.proofs.lemmas.Grind.{div_ceil_times}
use lib.ListN.{length, get_or, drop, replicate, length-set, length-replicate, get_or-replicate, get_or-append}
use lib.Seq.{get_or-set_same, get_or-set_other, drop-set-lt}
use borrow.Author.Tests.{le-leb, lt-ltb, ne_eqb}
use Rattle.paper.specs.Checks.{pick}
use Rattle.paper.specs.Promise.{written}
use Rattle.paper.proofs.Cases.{by_bool, by_lt, by_eq}
use Rattle.paper.proofs.Writing.{written-rest}
use Rattle.paper.proofs.Rows.{tells-le, tells-lt, tells_both, and_left, and_right}
use Rattle.bits.specs.Steps.{number_bits, with_bit}
use Rattle.bits.proofs.Marks.{bit-on, bit-other, none-on}
use Rattle.seek.specs.Every.{all_below}
use Rattle.seek.proofs.Everys.{every_here, here-every, every-fails, Fails, one-fails}
use Rattle.layout.specs.declared.Drive.{Drive}
use Rattle.layout.specs.Descriptors.{number_of, is_allocated, names}
use Rattle.layout.proofs.Words.{tells-allocated, tells-names}
use Rattle.table.specs.Steps.{may_stand, named_first, in_window, is_marked, with_mark, names_in, first_in}
use Rattle.table.proofs.Standings.{allocated-stands}
use Rattle.table.proofs.Once.{first-free}

-- the number of a block of the window is one of the window's
window-slot : (from count b : ℕ) → in_window from count b ≡ true → (from ≤ b / number_bits) × (b / number_bits - from < count)
window-slot from count b = (tells_both (tells-le from (b / number_bits)) (tells-lt (b / number_bits - from) count)).holds

pub slot-in-window : (from count b : ℕ) → from ≤ b / number_bits → b / number_bits - from < count → in_window from count b ≡ true
slot-in-window from count b least most = rw (le-leb from (b / number_bits) least, lt-ltb (b / number_bits - from) count most)

-- a mark that is turned on is on
module _ (scratch : List ℕ) (from count n : ℕ) (long : count ≤ length scratch) (in-n : in_window from count n ≡ true) where
  abbrev marked-number : ℕ
  marked-number = with_bit (get_or scratch (n / number_bits - from) 0) (n % number_bits)

  holds-mark : get_or (with_mark scratch from n) (n / number_bits - from) 0 ≡ marked-number
  holds-mark = get_or-set_same scratch (n / number_bits - from) marked-number 0 (omega (arith, long, (window-slot from count n in-n).1))

  mark_on : is_marked (with_mark scratch from n) from n ≡ true
  mark_on = rw holds-mark (bit-on (get_or scratch (n / number_bits - from) 0) (n % number_bits))

  -- and every other stays as it was
  mark-other : (b : ℕ) → in_window from count b ≡ true → (b ≡ n → ⊥) → is_marked (with_mark scratch from n) from b ≡ is_marked scratch from b
  mark-other b in_b other =
      by_eq (b / number_bits - from) (n / number_bits - from)
      (λ same.
      rw (same, holds-mark)
      (bit-other (get_or scratch (n / number_bits - from) 0) (n % number_bits) (b % number_bits)
      (λ bit. other (omega (arith, same, bit, (window-slot from count b in_b).0, (window-slot from count n in-n).0)))))
      (λ apart. rw (get_or-set_other scratch (n / number_bits - from) (b / number_bits - from) marked-number 0 apart))

  -- the numbers beyond the window too
  pub mark-beyond : drop count (with_mark scratch from n) ≡ drop count scratch
  mark-beyond = drop-set-lt count scratch (n / number_bits - from) marked-number (window-slot from count n in-n).1

-- the first numbers of scratch are cleared: the rest stands
pub cleared-beyond : (count : ℕ) (scratch : List ℕ) → drop count (written (replicate count 0) scratch) ≡ drop count scratch
cleared-beyond count scratch = written-rest (replicate count 0) scratch count (sym (length-replicate count 0))

-- after the places below a bound a mark of the window is on exactly where one of them names its block
pub record Marked (from count : ℕ) (t : List ℕ) (place : ℕ) (scratch : List ℕ) : Type 0 where
  pub long : count ≤ length scratch
  pub on : (b : ℕ) → in_window from count b ≡ true → is_marked scratch from b ≡ not (all_below (λ p. not (names (get_or t p 0) b)) place)

-- no mark is on where the window is clear
pub marked-none :
    (from count : ℕ) (t scratch left : List ℕ) → count ≤ length left → left ≡ written (replicate count 0) scratch → Marked from count t 0 left
unfolding all_below
marked-none from count t scratch left long is = record { long = long; on = off }
  where
    off : (b : ℕ) → in_window from count b ≡ true → is_marked left from b ≡ false
    off b in_b =
        let slot : b / number_bits - from < length {A = ℕ} (replicate count 0) = rw (length-replicate {A = ℕ} count 0) (window-slot from count b in_b).1 in
        rw (is, get_or-append (replicate count 0) (drop (length {A = ℕ} (replicate count 0)) scratch) 0 (b / number_bits - from) slot, get_or-replicate {A = ℕ} count (b / number_bits - from) 0 0 (window-slot from count b in_b).1)
        (none-on (b % number_bits))

-- one place more
module _ {from count : ℕ} {t : List ℕ} {place : ℕ} {scratch : List ℕ} (before : Marked from count t place scratch) where
  abbrev word : ℕ
  word = get_or t place 0

  -- what it is for the place to name a block of the window
  names-one : names_in from count word ≡ true → is_allocated word ≡ true
  names-one = and_left (is_allocated word) (in_window from count (number_of word))

  names-inside : names_in from count word ≡ true → in_window from count (number_of word) ≡ true
  names-inside = and_right (is_allocated word) (in_window from count (number_of word))

  -- a block that the place does not name is marked as before
  not_named : (b : ℕ) → names word b ≡ false → all_below (λ p. not (names (get_or t p 0) b)) (place + 1) ≡ all_below (λ p. not (names (get_or t p 0) b)) place
  unfolding all_below
  not_named b e = rw (add-one place, e, and-true)

  pub marked_next : {left : List ℕ} → left ≡ pick (names_in from count word) (with_mark scratch from (number_of word)) scratch → Marked from count t (place + 1) left
  marked_next {left} is = by_bool (names_in from count word) named unnamed
    where
      named : names_in from count word ≡ true → Marked from count t (place + 1) left
      named e = record { long = rw (to, length-set scratch (number_of word / number_bits - from) (with_bit (get_or scratch (number_of word / number_bits - from) 0) (number_of word % number_bits))) before.long; on = on }
        where
          to : left ≡ with_mark scratch from (number_of word)
          to = rw e at is

          on : (b : ℕ) → in_window from count b ≡ true → is_marked left from b ≡ not (all_below (λ p. not (names (get_or t p 0) b)) (place + 1))
          on b in_b =
              by_eq b (number_of word)
              (λ same.
              let found : all_below (λ p. not (names (get_or t p 0) (number_of word))) (place + 1) ≡ false =
              every-fails (λ p. not (names (get_or t p 0) (number_of word))) (place + 1) place (omega arith) (rw ((tells-names word (number_of word)).told ((tells-allocated word).holds (names-one e), refl)))
              in
              rw (to, same, found) (mark_on scratch from count (number_of word) before.long (names-inside e)))
              (λ other.
              rw to
              (mark-other scratch from count (number_of word) before.long (names-inside e) b in_b other
              ∙ before.on b in_b
              ∙ ap not (sym (not_named b (rw (ne_eqb (number_of word) b (λ same. other (sym same)), and-false))))))

      unnamed : names_in from count word ≡ false → Marked from count t (place + 1) left
      unnamed e = record { long = rw to before.long; on = λ b in_b. rw to (before.on b in_b ∙ ap not (sym (not_named b (unnamed-by b in_b)))) }
        where
          to : left ≡ scratch
          to = rw e at is

          unnamed-by : (b : ℕ) → in_window from count b ≡ true → names word b ≡ false
          unnamed-by b in_b =
              by_bool (names word b)
              (λ names-b.
              let by = (tells-names word b).holds names-b in
              let both : names_in from count word ≡ true = rw ((tells-allocated word).told by.0, by.1) in_b in
              absurd (true≢false (sym both ∙ e)))
              (λ none. none)

  -- the numbers beyond the window stand
  pub beyond-next : {left : List ℕ} → left ≡ pick (names_in from count word) (with_mark scratch from (number_of word)) scratch → drop count left ≡ drop count scratch
  beyond-next is =
      by_bool (names_in from count word)
      (λ e. rw (is, e) (mark-beyond scratch from count (number_of word) before.long (names-inside e)))
      (λ e. rw (is, e))

  -- the place names its block first exactly where the block's mark was off
  pub first-unmarked : not (names_in from count word && is_marked scratch from (number_of word)) ≡ first_in from count t place
  first-unmarked =
      by_bool (names_in from count word)
      (λ e.
      rw (e, names-one e, before.on (number_of word) (names-inside e)) (not-not (all_below (λ p. not (names (get_or t p 0) (number_of word))) place)))
      (λ e. rw e)

-- windows that follow one another: no block below the first number is named twice
abbrev pub OnceBelow : List ℕ → ℕ → Type 0
OnceBelow t from = (q : ℕ) → q < length t → number_of (get_or t q 0) / number_bits < from → named_first t q ≡ true

module _ (t : List ℕ) (from count : ℕ) where
  -- a window more
  pub window-next : OnceBelow t from → all_below (first_in from count t) (length t) ≡ true → OnceBelow t (from + count)
  window-next below all q h less =
      by_lt (number_of (get_or t q 0) / number_bits) from
      (below q h)
      (λ least.
      by_bool (is_allocated (get_or t q 0))
      (λ allocated.
      let named : names_in from count (get_or t q 0) ≡ true = rw (allocated, slot-in-window from count (number_of (get_or t q 0)) least (omega arith)) in
      rw named at (every_here (first_in from count t) (length t) all q h))
      (first-free t q))

  -- a block named twice in one window is named twice
  pub window-fails : all_below (first_in from count t) (length t) ≡ false → all_below (named_first t) (length t) ≡ false
  window-fails none =
      let found : Fails (first_in from count t) (length t) = one-fails (first_in from count t) (length t) none in
      every-fails (named_first t) (length t) found.place found.below
      (by_bool (named_first t found.place)
      (λ first. let passes : true ≡ false = rw (first, or-true) at found.here in absurd (true≢false passes))
      (λ again. again))

-- as many windows as the blocks need reach their number
pub windows-reach :
    (blocks spares window needed : ℕ) → 1 ≤ spares → needed ≡ div_ceil blocks (spares * number_bits) → needed ≤ window → blocks ≤ window * spares * number_bits
windows-reach blocks spares window needed some is reached =
    let marks : ℕ = spares * number_bits in
    let enough : blocks ≤ needed * marks = rw is (div_ceil_times blocks marks (omega arith)).0 in
    let more : needed * marks ≤ window * marks = mul-le-mul_right marks reached in
    rw (mul_assoc window spares number_bits) (omega arith)

-- windows that reach the number of blocks have all blocks that words name which may stand where they do
pub windows-all :
    (drive : Drive) (t : List ℕ) (from : ℕ) → all_below (λ q. may_stand drive q (get_or t q 0)) (length t) ≡ true →
    drive.blocks ≤ from * number_bits → OnceBelow t from → all_below (named_first t) (length t) ≡ true
windows-all drive t from stands reached below =
    here-every (named_first t) (length t)
    (λ q h.
    by_bool (is_allocated (get_or t q 0))
    (λ allocated.
    let home = (allocated-stands drive q (get_or t q 0) (every_here (λ p. may_stand drive p (get_or t p 0)) (length t) stands q h) ((tells-allocated (get_or t q 0)).holds allocated)).1 in
    below q h (omega arith))
    (first-free t q))
