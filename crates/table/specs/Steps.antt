-- For the code alone: no sentence of the paper needs it.
-- The test that a table breaks no rule, the marks by which it finds a block named twice, what is known of a table that passes it, and a census as it is counted.
use Rattle.std.specs.Prelude.{ℕ, ◌+◌, ◌-◌, ◌/◌, ◌%◌, ◌<◌, ◌^◌, ◌≡◌, Bool, true, false, not, ◌&&◌, ◌||◌, List, eqb, ltb, leb, length, get_or, set}
use Rattle.paper.specs.Checks.{pick, one_if}
use Rattle.bits.specs.Steps.{number_bits, bit_at, with_bit}
use Rattle.seek.specs.Count.{count_below}
use Rattle.seek.specs.Every.{all_below}
use Rattle.seek.specs.Search.{Before}
use Rattle.layout.specs.declared.Drive.{Drive}
use Rattle.layout.specs.Descriptors.{free, at_primary, elsewhere, unusable, null, word_of, code_of, number_of, primary, is_allocated, names}
use Rattle.order.specs.Order.{order, is_free}
use Rattle.holes.specs.Steps.{clear_way}
use Rattle.table.specs.declared.Census.{Census}
use Rattle.table.specs.Places.{table_length, code_at}
use Rattle.table.specs.Counting.{coded_at}

-- the word w may stand at place q: null beyond the spares, and before them free, unusable, or a home block under the code of its place
abbrev pub may_stand : Drive → ℕ → ℕ → Bool
may_stand drive q w =
    pick (leb drive.spares q)
    (eqb w (word_of null 0))
    (eqb w (word_of free 0)
    || (eqb w (word_of unusable 0)
    || (ltb (number_of w) drive.blocks && eqb (code_of w) (code_at drive q (number_of w)))))

-- the block that a place names is named by no place before it
abbrev pub named_first : List ℕ → ℕ → Bool
named_first t q = not (is_allocated (get_or t q 0)) || all_below (λ p. not (names (get_or t p 0) (number_of (get_or t q 0)))) q

-- scratch is a window of marks, one bit for each block: block b has bit b mod 32 of number b / 32, and the window is so many numbers from a first one on
abbrev pub in_window : ℕ → ℕ → ℕ → Bool
in_window from count b = leb from (b / number_bits) && ltb (b / number_bits - from) count

-- the mark of a block of the window is on
abbrev pub is_marked : List ℕ → ℕ → ℕ → Bool
is_marked scratch from b = bit_at (get_or scratch (b / number_bits - from) 0) (b % number_bits)

-- scratch with the mark of a block turned on
abbrev pub with_mark : List ℕ → ℕ → ℕ → List ℕ
with_mark scratch from b = set scratch (b / number_bits - from) (with_bit (get_or scratch (b / number_bits - from) 0) (b % number_bits))

-- a word names a block of the window
abbrev pub names_in : ℕ → ℕ → ℕ → Bool
names_in from count word = is_allocated word && in_window from count (number_of word)

-- the block that a place names, where it is one of the window, is named by no place before it
abbrev pub first_in : ℕ → ℕ → List ℕ → ℕ → Bool
first_in from count t q = not (names_in from count (get_or t q 0)) || named_first t q

-- a table breaks no rule
abbrev pub obeys : Drive → List ℕ → Bool
obeys drive t =
    eqb (length t) (table_length drive)
    && (all_below (λ q. may_stand drive q (get_or t q 0)) (length t) && (all_below (named_first t) (length t) && all_below (clear_way drive t) (length t)))

-- what the test shows of a table
pub record Obeys (drive : Drive) (t : List ℕ) : Type 0 where
  pub long : length t ≡ table_length drive
  pub stands : (q : ℕ) → q < length t → may_stand drive q (get_or t q 0) ≡ true
  pub once :
      (p q b : ℕ) → p < length t → q < length t → names (get_or t p 0) b ≡ true → names (get_or t q 0) b ≡ true → p ≡ q
  pub no_holes :
      (p q b : ℕ) → p < length t → names (get_or t p 0) b ≡ true → Before (order (length t) (primary drive b)) q p → is_free (get_or t q 0) ≡ false

-- the census of the places below a bound
abbrev pub census_below : List ℕ → ℕ → Census
census_below t n =
    record {
      free = count_below (coded_at t free) n;
      primary = count_below (coded_at t at_primary) n;
      elsewhere = count_below (coded_at t elsewhere) n;
      unusable = count_below (coded_at t unusable) n;
      null = count_below (coded_at t null) n;
    }

-- one more descriptor with a code
abbrev pub counted : Census → ℕ → Census
counted census code =
    record {
      free = census.free + one_if (eqb code free);
      primary = census.primary + one_if (eqb code at_primary);
      elsewhere = census.elsewhere + one_if (eqb code elsewhere);
      unusable = census.unusable + one_if (eqb code unusable);
      null = census.null + one_if (eqb code null);
    }

-- each count has room for one more
pub record Countable (census : Census) : Type 0 where
  pub free : census.free + 1 < 2 ^ 32
  pub primary : census.primary + 1 < 2 ^ 32
  pub elsewhere : census.elsewhere + 1 < 2 ^ 32
  pub unusable : census.unusable + 1 < 2 ^ 32
  pub null : census.null + 1 < 2 ^ 32
